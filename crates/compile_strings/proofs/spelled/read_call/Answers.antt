use Rattle.std.proofs.Common.{◌≡◌, ◌∙◌, ℕ, List, ap, subst, string_bytes}
use Rattle.compile_strings.proofs.Prelude.{content_codes, IsTarget, IsUtf8-string_bytes, label_at, label_place, nowhere, spelled, valid, valid_is}
use Rattle.compile_strings.specs.declared.spelled.SpelledTarget.TheVariants as targets
use Rattle.compile_strings.proofs.JoinedLaw.{call_target}
use Rattle.compile_strings.proofs.spelled.read_call.Goals as goal

pub returns : goal.returns
returns g c = λ at text.
    let old = string_bytes c.args.text.now in
    let new = string_bytes c.push_piece.new.text in
    let label = label_at c.args.bytes.now c.args.events.now (label_place c.args.held) in
    let piece_is : c.text_of.result.now ≡ label =
    c.text_of.ensures ∙ ap valid (c.deref.ensures.value ∙ c.in_ok-read_label.ensures) ∙ valid_is label text in
    subst (λ (z : List ℕ). IsTarget at old new (targets.Call c.in_ok-range.range) (spelled nowhere (content_codes z))) piece_is
    (call_target at old new c.text_of.result.now c.in_ok-range.range (IsUtf8-string_bytes c.args.text.now) (IsUtf8-string_bytes c.push_piece.new.text)
    c.in_ok-range.ensures)
