-- A collected list is that of the items which were to come.
use Rattle.std.proofs.Common.{◌∙◌, refl, sym}
use Rattle.std.specs.Vec.Iter.{into_iter_items}
use Rattle.std.proofs.lemmas.List.{map-id}
use Rattle.std.proofs.lemmas.Iterator.{items_from_drains}
use Rattle.std.proofs.lemmas.Iterator.Adapters.{YieldsList-from_vec}
use Rattle.rist.proofs.all_of.Goals as goal

pub returns-in-Ok-clause-words : goal.returns-in-Ok-clause-words
returns-in-Ok-clause-words c =
    let ran = c.in-Ok.ensures.ran in
    let all = YieldsList-from_vec (into_iter_items c.args.args) refl c.args.args.rest.ok.0 in
    ran.2.0 ∙ sym (map-id ran.0) ∙ items_from_drains ran.0 ran.1 all
