use Rattle.std.proofs.Common.{◌≡◌, ◌++◌, ◌∙◌, sym, ap, subst, ℕ, List, OnOk, string_bytes}
use Rattle.std.specs.Option.{option_copied}
use Rattle.compile_written.proofs.Prelude.{formed}
use Rattle.compile_written.proofs.FormedTexts.{name_text, no_named}
use Rattle.compile_written.proofs.string.push_named.Goals as goal

pub returns-in-Some : goal.returns-in-Some
returns-in-Some g c =
    let names = g.T.Tables.reference_of c.args.tables.now in
    subst (λ (z : List ℕ). OnOk c.push_formed.result (string_bytes c.push_formed.new.out ≡ string_bytes c.args.out.now ++ formed c.args.form z))
    (sym (name_text names c.args.name.now _ c.in-Ok.ensures.cases.1
    (sym (c.reference.ensures ∙ ap names c.in-Ok.ensures.cases.0) ∙ ap option_copied c.in-Some.is)))
    c.push_formed.ensures

pub returns-in-Err : goal.returns-in-Err
returns-in-Err g c = no_named (g.T.Tables.reference_of c.args.tables.now) c.args.form (string_bytes c.args.out.now) c.args.name.now c.in-Err.ensures.cases.0
