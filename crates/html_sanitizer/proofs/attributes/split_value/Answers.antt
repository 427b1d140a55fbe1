use Rattle.std.proofs.Common.{◌≡◌, arith, sym, ap, subst, lit<, ◌∙◌}
use Rattle.std.specs.List.{prefix_len}
use Rattle.std.specs.Str.{IsCharBoundary}
use Rattle.std.proofs.lemmas.Str.Pattern.{split_once_first, strip_prefix_char}
use Rattle.html_sanitizer.specs.Attributes.{is_unquoted_code, unquoted, split_value}
use Rattle.html_sanitizer.proofs.Reading.{stop_boundary, unquoted_small, quoted_split, value_other}
use Rattle.html_sanitizer.proofs.attributes.split_value.Goals as goal

pub returns-in-Some : goal.returns-in-Some
returns-in-Some c =
    let inside = c.in-Some.inside.now in
    let is = rw c.in-Some.is at (strip_prefix_char 34 c.args.text.now c.strip_prefix.result c.strip_prefix.ensures.cases (lit< tt)) in
    quoted_split 34 inside c.split_once.result (split_once_first 34 inside c.split_once.result c.split_once.ensures.cases (lit< tt)) ∙ sym (ap split_value is)

pub returns-in-Some-strip_prefix : goal.returns-in-Some-strip_prefix
returns-in-Some-strip_prefix c =
    let inside = c.in-Some-strip_prefix.inside.now in
    let r = c.split_once-in-Some-strip_prefix.result in
    let is = rw c.in-Some-strip_prefix.is at (strip_prefix_char 39 c.args.text.now c.strip_prefix-2.result c.strip_prefix-2.ensures.cases (lit< tt)) in
    quoted_split 39 inside r (split_once_first 39 inside r c.split_once-in-Some-strip_prefix.ensures.cases (lit< tt)) ∙ sym (ap split_value is)

pub returns-then-size-eq0 : goal.returns-then-size-eq0
returns-then-size-eq0 c =
    let text = c.args.text.now in
    let n = c.unquoted_size-size.result in
    let double = rw c.in_default.is at (strip_prefix_char 34 text c.strip_prefix.result c.strip_prefix.ensures.cases (lit< tt)) in
    let single = rw c.in_default-strip_prefix.is at (strip_prefix_char 39 text c.strip_prefix-2.result c.strip_prefix-2.ensures.cases (lit< tt)) in
    let none : n ≡ 0 = omega arith in
    sym (value_other text n double single (c.unquoted_size-size.ensures ∙ ap (prefix_len is_unquoted_code) c.as_bytes.ensures.value)
    ∙ ap (λ k. unquoted k text) none)

pub split_at-requires : goal.split_at-requires
split_at-requires c =
    let text = c.args.text.now in
    subst (IsCharBoundary text) (sym (c.unquoted_size-size.ensures ∙ ap (prefix_len is_unquoted_code) c.as_bytes.ensures.value))
    (stop_boundary is_unquoted_code text unquoted_small (λ k. omega (arith, c.type_inv.text k)) c.utf8.text)
