use Rattle.std.proofs.Common.{◌∙◌, ap, map, option_map, string_bytes, sym}
use Rattle.link_words.specs.Urls.{shown_form}
use Rattle.link_words.specs.Parameters.{parameters_in}
use Rattle.link_words.proofs.LinkLemmas.{if_err, on_ok, same_refused, taken_is}
use Rattle.link_words.proofs.parameters.push_options_of.Goals as goal

pub returns-else-refuses-clause-ok : goal.returns-else-refuses-clause-ok
returns-else-refuses-clause-ok c =
    on_ok c.push_parameters.result c.push_parameters.ensures.ok
    (λ h. taken_is c.args.command.now _ c.args.word.now _ _ _ _ (sym c.read_link.ensures ∙ ap shown_form c.in-Written.is) (sym c.refuses.ensures ∙ c.if-refuses.false)
    ∙ ap (λ url. parameters_in 16 c.args.command.now url (map string_bytes c.args.options.now.items) (option_map (λ p. p.now) c.in-Written.link.parameters)) (sym (ap (λ p. p.0) c.first_part.ensures)) ∙ h)

pub returns-else-refuses-clause-refused : goal.returns-else-refuses-clause-refused
returns-else-refuses-clause-refused c =
    if_err c.push_parameters.result c.push_parameters.ensures.refused
    (λ e h. same_refused (taken_is c.args.command.now _ c.args.word.now _ _ _ _ (sym c.read_link.ensures ∙ ap shown_form c.in-Written.is) (sym c.refuses.ensures ∙ c.if-refuses.false)
    ∙ ap (λ url. parameters_in 16 c.args.command.now url (map string_bytes c.args.options.now.items) (option_map (λ p. p.now) c.in-Written.link.parameters)) (sym (ap (λ p. p.0) c.first_part.ensures))) e h)
