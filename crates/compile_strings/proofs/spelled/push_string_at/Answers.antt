use Rattle.std.proofs.Common.{◌++◌, ◌∙◌, ℕ, List, sym, ap, string_bytes}
use Rattle.compile_strings.proofs.Prelude.{append-nil, Event, parts_after, written}
use Rattle.compile_strings.proofs.SpelledLaw.{found_string, no_string}
use Rattle.compile_strings.proofs.spelled.push_string_at.Goals as goal

pub returns : goal.returns
returns g c = λ string found.
    let names = g.T.Tables.reference_of c.args.texts.now.tables.now in
    let bytes = c.args.texts.now.bytes.now in
    let events = c.args.events.now in
    let old = string_bytes c.args.text.now in
    c.in_ok-push_written.ensures.parts
    ∙ ap (λ (z : List Event). old ++ written (parts_after names bytes 0 z)) c.events_after-string.ensures
    ∙ ap (λ (z : List ℕ). old ++ written z) (found_string names bytes events c.args.index c.in-Some.index string c.in-Some.is found)

pub returns-in_default : goal.returns-in_default
returns-in_default g c = λ string found.
    let names = g.T.Tables.reference_of c.args.texts.now.tables.now in
    let bytes = c.args.texts.now.bytes.now in
    let old = string_bytes c.args.text.now in
    sym (append-nil old) ∙ ap (λ (z : List ℕ). old ++ z) (no_string names bytes c.args.events.now c.args.index string c.in_default.is found)
