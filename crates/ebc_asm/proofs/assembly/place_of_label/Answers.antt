use Rattle.ebc_asm.proofs.AssemblyLemmas.{found-place}
use Rattle.ebc_asm.proofs.assembly.place_of_label.Goals as goal

pub returns-clause-found : goal.returns-clause-found
returns-clause-found c = found-place _ _ _ _ _ _ c.as_bytes-2.ensures.value c.as_bytes.ensures.value c.place_by.ensures c.in_ok-labels.ensures
