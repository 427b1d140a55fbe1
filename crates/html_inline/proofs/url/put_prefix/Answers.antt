use Rattle.std.proofs.Common.{◌≡◌, true, string_bytes, sym, ap, ◌∙◌}
use Rattle.std.proofs.lemmas.Str.{IsCharBoundary-after_ascii, IsUtf8-string_bytes}
use Rattle.html_inline.proofs.Prelude.{IsCharBoundary}
use Rattle.html_inline.specs.Fragments.{is_fragment}
use Rattle.html_inline.proofs.Fragments.{fragment_ascii, fragment_some}
use Rattle.html_inline.proofs.url.put_prefix.Goals as goal

pub insert_str-requires : goal.insert_str-requires
insert_str-requires g c =
    let url = string_bytes c.args.url.now in
    let fragment : is_fragment url ≡ true = ap is_fragment (sym c.as_bytes.ensures.value) ∙ sym c.is_fragment.ensures ∙ c.if-is_fragment.true in
    let cut : IsCharBoundary url 1 =
    IsCharBoundary-after_ascii url 0 (IsUtf8-string_bytes c.args.url.now) (fragment_some url fragment) (fragment_ascii url fragment) in
    (cut.0, λ positive. cut.1)
