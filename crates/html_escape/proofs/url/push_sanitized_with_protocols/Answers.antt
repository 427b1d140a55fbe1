use Rattle.std.proofs.Common.{◌≡◌, ◌+◌, string_bytes, length, take, sym, ap, ◌∙◌, arith, subst}
use Rattle.std.proofs.Math.Seq.{take-append_seam}
use Rattle.std.specs.Str.{IsUtf8, IsCharBoundary}
use Rattle.std.proofs.lemmas.List.{length-append}
use Rattle.std.proofs.lemmas.Str.{IsUtf8-string_bytes, IsCharBoundary-from_take}
use Rattle.definition_page.specs.Urls.{sanitize}
use Rattle.html_escape.proofs.url.push_sanitized_with_protocols.Goals as goal

-- a text may be cut where more was printed
pub truncate-requires : goal.truncate-requires
truncate-requires g c within =
    let before = string_bytes c.args.out.now in
    let added = sanitize c.args.url.now in
    let now = string_bytes c.push_sanitized.new.out in
    let printed = c.in_ok-push_sanitized.ensures in
    let start : c.len-start.result ≡ length before = c.len-start.ensures ∙ c.args.out.now.bytes.ok.0 in
    let front : take (length before) now ≡ before = ap (take (length before)) printed ∙ take-append_seam before added in
    let longer : length now ≡ length before + length added = ap length printed ∙ length-append before added in
    let boundary : IsCharBoundary now (length before) =
    IsCharBoundary-from_take now (length before) (IsUtf8-string_bytes c.push_sanitized.new.out) (omega arith)
    (subst IsUtf8 (sym front) (IsUtf8-string_bytes c.args.out.now)) in
    let cut = subst (IsCharBoundary now) (sym start) boundary in
    (cut.0, λ positive. cut.1)
