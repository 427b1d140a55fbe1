use Rattle.std.proofs.Common.{rules, ap, ap₂, true, ◌≡◌, ◌∙◌}
use Rattle.clap.specs.Words.{App, app_of, with_rule}
use Rattle.clap.specs.Simple.{app_of_fields, on_top}
use Rattle.markdown_settings.specs.Command.{bare}
use Rattle.markdown_settings.proofs.command.command.Goals as goal

abbrev nameless : App → App
nameless a = on_top (λ s. record s { no_binary_name = true }) a

abbrev versioned : App → App
versioned a = on_top (λ s. record s { has_version = true }) a

pub returns : goal.returns
returns c =
    let named = ap app_of_fields c.no_binary_name.ensures ∙ ap nameless c.new.ensures.app in
    let bare_is : app_of c.version.result ≡ bare = ap app_of_fields c.version.ensures ∙ ap versioned named in
    c.in_ok-command.ensures.shape (search rules)
    ∙ ap₂ with_rule (c.in_ok-arg-14.ensures.shape (search rules)
    ∙ ap₂ with_rule (c.in_ok-arg-13.ensures.shape (search rules)
    ∙ ap₂ with_rule (c.in_ok-arg-12.ensures.shape (search rules)
    ∙ ap₂ with_rule (c.in_ok-arg-11.ensures.shape (search rules)
    ∙ ap₂ with_rule (c.in_ok-arg-10.ensures.shape (search rules)
    ∙ ap₂ with_rule (c.in_ok-arg-9.ensures.shape (search rules)
    ∙ ap₂ with_rule (c.in_ok-arg-8.ensures.shape (search rules)
    ∙ ap₂ with_rule (c.in_ok-arg-7.ensures.shape (search rules)
    ∙ ap₂ with_rule (c.in_ok-arg-6.ensures.shape (search rules)
    ∙ ap₂ with_rule (c.in_ok-arg-5.ensures.shape (search rules)
    ∙ ap₂ with_rule (c.in_ok-arg-4.ensures.shape (search rules)
    ∙ ap₂ with_rule (c.in_ok-arg-3.ensures.shape (search rules)
    ∙ ap₂ with_rule (c.in_ok-arg-2.ensures.shape (search rules)
    ∙ ap₂ with_rule (c.in_ok-arg.ensures.shape (search rules)
    ∙ ap₂ with_rule bare_is c.flag.ensures.rule) c.flag-2.ensures.rule) c.flag-3.ensures.rule) c.flag-4.ensures.rule)
    c.flag-5.ensures.rule) c.valued.ensures.rule) c.valued-2.ensures.rule) c.valued-3.ensures.rule) c.valued-4.ensures.rule) c.flag-6.ensures.rule)
    c.flag-7.ensures.rule) c.flag-8.ensures.rule) c.flag-9.ensures.rule) c.valued-5.ensures.rule) c.file.ensures.rule
