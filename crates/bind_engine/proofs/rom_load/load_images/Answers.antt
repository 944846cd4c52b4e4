use Rattle.std.proofs.Common.{◌≡◌, ◌∷◌, List, sym, ap, ◌∙◌}
use Rattle.option_rom.specs.RomGrammar.{Image}
use Rattle.driver_model.proofs.Spending.{joined_spends}
use Rattle.bind_engine.specs.RomLoad.{with_images}
use Rattle.bind_engine.proofs.rom_load.load_images.Goals as goal

pub loop-image-preserved : goal.loop-image-preserved
loop-image-preserved c =
    let settings = c.args.settings.now in
    let so_far = c.loop-image.invariant in
    record {
      done =
          sym (ap (with_images settings c.next.new.self.images) c.in_ok-add_image.ensures.done)
          ∙ ap (λ (images : List Image). with_images settings images (c.loop-image.tally, c.loop-image.world.now)) (sym c.in-Some.ensures.image)
          ∙ so_far.done;
      end = c.in-Some.ensures.end ∙ so_far.end;
      spends = joined_spends c.args.world.now.now.hard c.loop-image.world.now.hard c.add_image.new.world.now.hard so_far.spends c.in_ok-add_image.ensures.spends;
      idle = c.in_ok-add_image.ensures.idle;
    }
