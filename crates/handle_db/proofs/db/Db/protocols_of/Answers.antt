use Rattle.std.proofs.Common.{◌≡◌, true, arith}
use Rattle.std.specs.List.{list_all}
use Rattle.std.proofs.lemmas.Grind.{common_steps}
use Rattle.handle_db.specs.Database.{is_handle, is_kept}
use Rattle.handle_db.proofs.Changes.{few_protocols}
use Rattle.handle_db.proofs.db.Db.protocols_of.Goals as goal

-- the handle that is found keeps the limit
pub returns-in-Some-clause-few : goal.returns-in-Some-clause-few
returns-in-Some-clause-few c =
    let kept : list_all is_kept c.as_slice.result.now ≡ true = rw c.as_slice.ensures.value c.self.invariant.sound.kept in
    let few = few_protocols (is_handle c.get.result) c.as_slice.result.now c.in-Some.entry.now kept c.in-Some.ensures.found in
    grind (arith, common_steps, few)
