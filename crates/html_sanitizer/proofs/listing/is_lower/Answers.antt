use Rattle.std.proofs.Common.{◌≡◌, ◌&&◌, true, false, not, sym, ap, ◌∙◌, inl, inr}
use Rattle.std.specs.List.{list_any}
use Rattle.std.specs.Char.{is_ascii_uppercase}
use Rattle.std.proofs.lemmas.Bool.{cases_Bool}
use Rattle.std.proofs.lemmas.Slice.Eq.{bytes_eq-Decides}
use Rattle.definition_text.specs.Bytes.{lower, same_caselessly}
use Rattle.html_escape.proofs.Protocols.{same_lower}
use Rattle.html_sanitizer.proofs.listing.is_lower.Goals as goal

pub returns-then-eq_ignore_ascii_case : goal.returns-then-eq_ignore_ascii_case
returns-then-eq_ignore_ascii_case c =
    let name = c.args.name.now in
    let written = c.args.written.now in
    let equal = c.eq_ignore_ascii_case.ensures.test.0 c.if-eq_ignore_ascii_case.true in
    let same : same_caselessly name written ≡ true = (bytes_eq-Decides (lower name) (lower written)).1 equal in
    ap not (c.has_uppercase.ensures ∙ ap (list_any is_ascii_uppercase) c.as_bytes.ensures.value)
    ∙ sym (ap (λ b. b && not (list_any is_ascii_uppercase name)) same) ∙ same_lower name written

pub returns-else-eq_ignore_ascii_case : goal.returns-else-eq_ignore_ascii_case
returns-else-eq_ignore_ascii_case c =
    let name = c.args.name.now in
    let written = c.args.written.now in
    let other : same_caselessly name written ≡ false = elim (cases_Bool (same_caselessly name written)) [
      | inl h ↦
          let equal = c.eq_ignore_ascii_case.ensures.test.1 ((bytes_eq-Decides (lower name) (lower written)).0 h) in
          let no : true ≡ false = sym equal ∙ c.if-eq_ignore_ascii_case.false in
          cc
      | inr h ↦ h
    ] in
    c.if-eq_ignore_ascii_case.false ∙ sym (ap (λ b. b && not (list_any is_ascii_uppercase name)) other) ∙ same_lower name written
