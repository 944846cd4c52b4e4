use Rattle.std.proofs.Common.{◌≡◌, ◌++◌, ◌∷◌, [], ℕ, not, nat_eq, rules, ap, filter, List, ◌∙◌}
use Rattle.std.proofs.lemmas.Fn.{filter_same}
use Rattle.driver_model.specs.declared.settings.PlatformList.{PlatformList}
use Rattle.bind_engine.proofs.settings.with_list.Goals as goal

pub returns : goal.returns
returns c =
    let other = λ (list : PlatformList). not (nat_eq list.controller c.args.controller) in
    let new : List ℕ → PlatformList = λ drivers. record { controller = c.args.controller; drivers = drivers } in
    let others = filter_same _ _ _ (λ x b f' k. search rules) _ _ c.retain.ensures.filtered ∙ ap (filter other) c.into_vec-lists.ensures in
    let drivers : c.of-drivers.result ≡ c.args.drivers.now = c.of-drivers.ensures ∙ c.in_ok-from_slice.ensures.items in
    c.of.ensures ∙ c.in_ok-push.ensures.items
    ∙ ap (λ (lists : List PlatformList). lists ++ new c.of-drivers.result ∷ []) others
    ∙ ap (λ (list : List ℕ). filter other c.args.lists ++ new list ∷ []) drivers
