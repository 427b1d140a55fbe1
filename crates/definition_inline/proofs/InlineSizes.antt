-- No construct takes a code past the end of the content, and those that hold no other take one at least.
use Rattle.std.proofs.Common.{◌≡◌, ℕ, zero, suc, ◌+◌, ◌-◌, ◌<◌, ◌≤◌, Bool, true, false, cond, not, ◌&&◌, ◌||◌, List, [], ◌∷◌, map, Option, None, Some, sym, ap}
use Rattle.std.proofs.Common.{length, drop, take, arith, subst, length-drop}
use Rattle.std.specs.Prelude.{◌==◌, ◌++◌, nat_le, codes, reverse, slice_index_or}
use Rattle.std.specs.List.{prefix_len}
use Rattle.std.specs.Option.{option_or}
use Rattle.std.specs.Char.{is_ascii_digit, is_ascii_hexdigit, is_ascii_alphanumeric, to_ascii_lowercase}
use Rattle.std.proofs.lemmas.Bool.{cond_both, and_parts, leb-true, eqb-true}
use Rattle.std.proofs.lemmas.List.{length-take, length-map, length-reverse}
use Rattle.std.proofs.lemmas.Slice.Eq.{bytes_eq-Decides}
use mathlib.Core.Bool.{true≢false}
use Rattle.std.proofs.lemmas.List.Sums.{prefix_len-le-length}
use Rattle.markdown_options.specs.declared.configuration.Constructs.{Constructs}
use Rattle.definition_text.specs.Columns.{is_white, indent, bare}
use Rattle.definition_text.specs.Bytes.{begins_with, after_all, begins_with_letter, lower, without_slash}
use Rattle.definition_text.specs.InlineCode.{InlineCode, codes_of}
use Rattle.definition_text.specs.Runs.{run, after_run}
use Rattle.definition_text.specs.Content.{Part, part, text_before, up_to}
use Rattle.definition_inline.specs.HtmlTags.{then_part, is_tag_space, tag_space, is_tag_name_byte, after_tag_name, begins_attribute, is_attribute_byte}
use Rattle.definition_inline.specs.HtmlTags.{is_unquoted, quoted_value, unquoted_value, value, value_or, specification, attribute, has_attribute, attributes}
use Rattle.definition_inline.specs.HtmlTags.{tag_end, open_end, closing_end, open_rest, closing_rest, open_tag, closing_tag}
use Rattle.definition_inline.specs.Inline.{Reference, Escape, Autolink, Literal, Www, Protocol, EscapedBreak, LineEnd, Found, leaf, or_else}
use Rattle.definition_inline.specs.CharacterEscape.{escape_at}
use Rattle.definition_inline.specs.CharacterReference.{CharacterReference, before_semicolon, part_to_semicolon, reference_by_number, reference_by_name}
use Rattle.definition_inline.specs.CharacterReference.{number_reference, reference_after, reference_form, reference_text, reference_leaf, reference_of}
use Rattle.definition_inline.specs.CharacterReference.{reference_at}
use Rattle.definition_inline.specs.CodeText.{run_of, raw_leaf, raw_at, code_text_at}
use Rattle.definition_inline.specs.MathText.{may_open_math, math_text_at}
use Rattle.definition_inline.specs.Autolink.{is_scheme_byte, is_uri_byte, begins_with_scheme, after_uri, uri_end, is_email_byte, is_domain_byte, domain_end}
use Rattle.definition_inline.specs.Autolink.{email_end, closed_autolink, autolink_after, autolink_at}
use Rattle.definition_inline.specs.HtmlText.{html_byte, after_text, comment_rest, comment, instruction, declaration, cdata, html_end, html_leaf, html_text_at}
use Rattle.definition_inline.specs.HardBreak.{ends_here, line_end_at, escaped_break_at, line_spaces_at}
use Rattle.definition_inline.specs.Label.{label_at}
use Rattle.definition_inline.specs.Resource.{LinkResource, resource_at}
use Rattle.definition_inline.specs.LabelEnd.{LinkTail, link_tail, is_label_text, by_text, by_label, by_resource, label_end_at}
use Rattle.definition_inline.specs.GfmAutolinkLiteral.{LiteralStart, literal_start, or_start, www_start, protocol_start, begins_caselessly, may_precede_www}
use Rattle.definition_inline.specs.GfmAutolinkLiteral.{may_precede_protocol, is_cut, cut_more, without_tail, ends_literal}
use Rattle.definition_inline.specs.GfmAutolinkLiteral.{literal_run, literal_name, named_literal, literal_after, literal_start_at, literal_at}
use Rattle.definition_inline.specs.Scan.{InlineContext, leaf_at, leaf_here}

-- what holds of a value, where there is one
abbrev WhereSome : {A : Type 0} → (A → Type 0) → Option A → Type 0
WhereSome P None = Unit {0}
WhereSome P (Some x) = P x

-- a code at least, and at most these many
pub record Fits (most : ℕ) (l : Found) : Type 0 where
  pub some : 0 < l.size
  pub within : l.size ≤ most

abbrev MayFit : ℕ → Option Found → Type 0
MayFit most o = WhereSome (Fits most) o

fit_or : (most : ℕ) (a b : Option Found) → MayFit most a → MayFit most b → MayFit most (or_else a b)
fit_or most None b p q = q
fit_or most (Some l) b p q = p

fit_if : (most : ℕ) (test : Bool) (l : Found) → (test ≡ true → Fits most l) → MayFit most (cond test (Some l) None)
fit_if most test l p = cond_both test (Some l) None (MayFit most) p (λ _. tt)

-- ---- escapes, references, breaks and line endings

fit_escape : (on : Constructs) (content : List ℕ) → MayFit (length content) (escape_at on content)
fit_escape on [] = tt
fit_escape on (c ∷ []) = tt
fit_escape on (c ∷ next ∷ cs) =
    fit_if (length (c ∷ next ∷ cs)) _ (leaf (Escape next ∷ []) 2) (λ _. record { some = omega arith; within = omega arith })

fit_break : (on : Constructs) (content : List ℕ) → MayFit (length content) (escaped_break_at on content)
fit_break on [] = tt
fit_break on (c ∷ cs) = fit_if (length (c ∷ cs)) _ (leaf (EscapedBreak ∷ []) 1) (λ _. record { some = omega arith; within = omega arith })

-- a part that leaves less than so many codes
abbrev LeavesLess : ℕ → Option Part → Type 0
LeavesLess most o = WhereSome (λ (p : Part). length p.rest < most) o

abbrev ReferenceLeavesLess : ℕ → Option CharacterReference → Type 0
ReferenceLeavesLess most o = WhereSome (λ (r : CharacterReference). length r.rest < most) o

less_before : (most : ℕ) (name rest : List ℕ) → length rest ≤ most → LeavesLess most (before_semicolon name rest)
less_before most name [] le = tt
less_before most name (c ∷ cs) le = cond_both (c == 59) (Some (part name cs)) None (LeavesLess most) (λ _. omega arith) (λ _. tt)

less_terminated : (test : ℕ → Bool) (longest : ℕ) (content : List ℕ) → LeavesLess (length content) (part_to_semicolon test longest content)
less_terminated test longest content =
    let size = prefix_len test content in
    cond_both (nat_le 1 size && nat_le size longest) (before_semicolon (take size content) (drop size content)) None (LeavesLess (length content))
    (λ _. less_before (length content) (take size content) (drop size content) (omega (arith, length-drop size content))) (λ _. tt)

less_numbered : (most base : ℕ) (o : Option Part) → LeavesLess most o → ReferenceLeavesLess most (reference_by_number base o)
less_numbered most base None p = tt
less_numbered most base (Some digits) p = p

less_named : (most : ℕ) (o : Option Part) → LeavesLess most o → ReferenceLeavesLess most (reference_by_name o)
less_named most None p = tt
less_named most (Some name) p = p

less_more : (few most : ℕ) (o : Option CharacterReference) → few ≤ most → ReferenceLeavesLess few o → ReferenceLeavesLess most o
less_more few most None le p = tt
less_more few most (Some r) le p = omega arith

less_number : (content : List ℕ) → ReferenceLeavesLess (length content) (number_reference content)
less_number [] = tt
less_number (c ∷ cs) =
    cond_both ((c == 120) || (c == 88)) (reference_by_number 16 (part_to_semicolon is_ascii_hexdigit 6 cs))
    (reference_by_number 10 (part_to_semicolon is_ascii_digit 7 (c ∷ cs)))
    (ReferenceLeavesLess (length (c ∷ cs)))
    (λ _. less_more (length cs) (length (c ∷ cs)) (reference_by_number 16 (part_to_semicolon is_ascii_hexdigit 6 cs)) (omega arith)
    (less_numbered (length cs) 16 (part_to_semicolon is_ascii_hexdigit 6 cs) (less_terminated is_ascii_hexdigit 6 cs)))
    (λ _. less_numbered (length (c ∷ cs)) 10 (part_to_semicolon is_ascii_digit 7 (c ∷ cs)) (less_terminated is_ascii_digit 7 (c ∷ cs)))

less_after : (content : List ℕ) → ReferenceLeavesLess (length content) (reference_after content)
less_after [] = tt
less_after (c ∷ cs) =
    cond_both (c == 35) (number_reference cs) (reference_by_name (part_to_semicolon is_ascii_alphanumeric 31 (c ∷ cs))) (ReferenceLeavesLess (length (c ∷ cs)))
    (λ _. less_more (length cs) (length (c ∷ cs)) (number_reference cs) (omega arith) (less_number cs))
    (λ _. less_named (length (c ∷ cs)) (part_to_semicolon is_ascii_alphanumeric 31 (c ∷ cs)) (less_terminated is_ascii_alphanumeric 31 (c ∷ cs)))

less_form : (content : List ℕ) → ReferenceLeavesLess (length content) (reference_form content)
less_form [] = tt
less_form (c ∷ cs) =
    cond_both (c == 38) (reference_after cs) None (ReferenceLeavesLess (length (c ∷ cs)))
    (λ _. less_more (length cs) (length (c ∷ cs)) (reference_after cs) (omega arith) (less_after cs)) (λ _. tt)

fit_text : (most size : ℕ) (found : Option (List ℕ)) → 0 < size → size ≤ most → MayFit most (reference_leaf size found)
fit_text most size None some within = tt
fit_text most size (Some bytes) some within = record { some = some; within = within }

fit_reference_of : (names : List ℕ → Option (List ℕ)) (content : List ℕ) (found : Option CharacterReference) → ReferenceLeavesLess (length content) found
    → MayFit (length content) (reference_of names content found)
fit_reference_of names content None p = tt
fit_reference_of names content (Some found) p =
    fit_text (length content) (length content - length found.rest) (reference_text names found.name) (omega arith) (omega arith)

fit_reference : (on : Constructs) (names : List ℕ → Option (List ℕ)) (content : List ℕ) → MayFit (length content) (reference_at on names content)
fit_reference on names content =
    cond_both on.character_reference (reference_of names content (reference_form content)) None (MayFit (length content))
    (λ _. fit_reference_of names content (reference_form content) (less_form content)) (λ _. tt)

fit_line_end : (content : List ℕ) → MayFit (length content) (line_end_at content)
fit_line_end [] = tt
fit_line_end (c ∷ cs) =
    fit_if (length (c ∷ cs)) _ (leaf (LineEnd c ∷ []) (1 + indent cs))
    (λ _. record { some = omega arith; within = omega (arith, prefix_len-le-length is_white cs) })

fit_line_spaces : (on : Constructs) (content : List ℕ) → MayFit (length content) (line_spaces_at on content)
fit_line_spaces on content =
    fit_if (length content) (nat_le 1 (indent content) && ends_here (bare content)) _
    (λ e. record {
      some = leb-true 1 (indent content) (and_parts (nat_le 1 (indent content)) (ends_here (bare content)) e).0;
      within = prefix_len-le-length is_white content;
    })

-- ---- code spans and math

-- a run of exactly n that was found
record IsRunOf (marker n most : ℕ) (rest : List ℕ) : Type 0 where
  size : run marker rest ≡ n
  within : length rest ≤ most

run_of_found : (marker n : ℕ) (inside : Bool) (content : List ℕ) → WhereSome (IsRunOf marker n (length content)) (run_of marker n inside content)
run_of_found marker n inside [] = tt
run_of_found marker n inside (c ∷ cs) =
    cond_both (not inside && (run marker (c ∷ cs) == n)) (Some (c ∷ cs)) (run_of marker n (c == marker) cs) (WhereSome (IsRunOf marker n (length (c ∷ cs))))
    (λ e. record { size = eqb-true (run marker (c ∷ cs)) n (and_parts (not inside) (run marker (c ∷ cs) == n) e).1; within = omega arith })
    (λ _. later (run_of marker n (c == marker) cs) (run_of_found marker n (c == marker) cs))
  where
    later : (o : Option (List ℕ)) → WhereSome (IsRunOf marker n (length cs)) o → WhereSome (IsRunOf marker n (length (c ∷ cs))) o
    later None p = tt
    later (Some rest) p = record { size = p.size; within = omega (arith, p.within) }

fit_raw_found : (marker : ℕ) (content rest : List ℕ) (n : ℕ) (found : Option (List ℕ)) → 0 < n → length rest + n ≡ length content
    → WhereSome (IsRunOf marker n (length rest)) found → Fits (length content) (raw_leaf marker n content (up_to rest found))
fit_raw_found marker content rest n None some size p = record { some = some; within = omega arith }
fit_raw_found marker content rest n (Some closing) some size p =
    let room : n ≤ length closing = omega (arith, prefix_len-le-length (λ b. b == marker) closing, p.size) in
    let inner : length (text_before rest closing) ≤ length rest - length closing = omega (arith, length-take (length rest - length closing) rest) in
    record { some = omega arith; within = omega (arith, p.within) }

fit_raw : (marker : ℕ) (may_open : Bool) (content : List ℕ) → MayFit (length content) (raw_at marker may_open content)
fit_raw marker may_open content =
    let n = run marker content in
    let rest = after_run marker content in
    fit_if (length content) (may_open && not (n == 0)) (raw_leaf marker n content (up_to rest (run_of marker n false rest)))
    (λ e.
    let some : 0 < n = positive n (and_parts may_open (not (n == 0)) e).1 in
    let size : length rest + n ≡ length content = omega (arith, length-drop n content, prefix_len-le-length (λ b. b == marker) content) in
    fit_raw_found marker content rest n (run_of marker n false rest) some size (run_of_found marker n false rest))
  where
    positive : (n : ℕ) → not (n == 0) ≡ true → 0 < n
    positive zero e = absurd (true≢false (sym e))
    positive (suc n) e = omega arith

-- ---- autolinks and raw HTML

-- what leaves at most so many codes
abbrev Leaves : ℕ → Option (List ℕ) → Type 0
Leaves most o = WhereSome (λ (rest : List ℕ). length rest ≤ most) o

leaves_more : (few most : ℕ) (o : Option (List ℕ)) → few ≤ most → Leaves few o → Leaves most o
leaves_more few most None le p = tt
leaves_more few most (Some rest) le p = omega arith

leaves_if : (most : ℕ) (test : Bool) (o : Option (List ℕ)) → Leaves most o → Leaves most (cond test o None)
leaves_if most test o p = cond_both test o None (Leaves most) (λ _. p) (λ _. tt)

dropped : (n : ℕ) (bytes : List ℕ) → length (drop n bytes) ≤ length bytes
dropped n bytes = omega (arith, length-drop n bytes)

after_test : (test : ℕ → Bool) (bytes : List ℕ) → length (after_all test bytes) ≤ length bytes
after_test test bytes = dropped (prefix_len test bytes) bytes

leaves_uri : (content : List ℕ) → Leaves (length content) (uri_end content)
leaves_uri content =
    let rest = after_all is_scheme_byte content in
    leaves_if (length content) (begins_with_scheme content && begins_with (codes ":") rest) (Some (after_uri rest))
    (omega (arith, after_test is_uri_byte (drop 1 rest), dropped 1 rest, after_test is_scheme_byte content))

leaves_domain : (content : List ℕ) → Leaves (length content) (domain_end content)
leaves_domain content = leaves_if (length content) _ (Some (after_all is_domain_byte content)) (after_test is_domain_byte content)

leaves_email : (content : List ℕ) → Leaves (length content) (email_end content)
leaves_email content =
    let rest = after_all is_email_byte content in
    leaves_if (length content) _ (domain_end (drop 1 rest))
    (leaves_more (length (drop 1 rest)) (length content) (domain_end (drop 1 rest)) (omega (arith, dropped 1 rest, after_test is_email_byte content))
    (leaves_domain (drop 1 rest)))

-- bytes that begin with a text that isn't empty
not_empty : (b : ℕ) (others rest : List ℕ) → begins_with (b ∷ others) rest ≡ true → 0 < length rest
not_empty b others [] e = absurd (true≢false (sym e))
not_empty b others (c ∷ cs) e = omega arith

fit_closed : (is_email : Bool) (content : List ℕ) (found : Option (List ℕ)) → Leaves (length content) found
    → MayFit (length content + 1) (closed_autolink is_email content found)
fit_closed is_email content None p = tt
fit_closed is_email content (Some rest) p =
    fit_if (length content + 1) (begins_with (codes ">") rest)
    (leaf (Autolink is_email (text_before content rest) ∷ []) (length (text_before content rest) + 2))
    (λ e.
    let room = not_empty 62 [] rest e in
    let size : length (text_before content rest) ≤ length content - length rest = omega (arith, length-take (length content - length rest) content) in
    record { some = omega arith; within = omega arith })

fit_autolink_after : (content : List ℕ) → MayFit (length content + 1) (autolink_after content)
fit_autolink_after content =
    fit_or (length content + 1) (closed_autolink false content (uri_end content)) (closed_autolink true content (email_end content))
    (fit_closed false content (uri_end content) (leaves_uri content)) (fit_closed true content (email_end content) (leaves_email content))

fit_more : (few most : ℕ) (o : Option Found) → few ≤ most → MayFit few o → MayFit most o
fit_more few most None le p = tt
fit_more few most (Some l) le p = record { some = p.some; within = omega (arith, p.within) }

fit_autolink : (on : Constructs) (content : List ℕ) → MayFit (length content) (autolink_at on content)
fit_autolink on content =
    cond_both (on.autolink && begins_with (codes "<") content) (autolink_after (drop 1 content)) None (MayFit (length content))
    (λ e.
    let some = not_empty 60 [] content (and_parts on.autolink (begins_with (codes "<") content) e).1 in
    fit_more (length (drop 1 content) + 1) (length content) (autolink_after (drop 1 content)) (omega (arith, length-drop 1 content))
    (fit_autolink_after (drop 1 content)))
    (λ _. tt)

-- a part of a tag, and another one after it
leaves_after : (most : ℕ) (o : Option (List ℕ)) (next : List ℕ → Option (List ℕ)) → Leaves most o → ((rest : List ℕ) → Leaves (length rest) (next rest))
    → Leaves most (then_part o next)
leaves_after most None next p q = tt
leaves_after most (Some rest) next p q = leaves_more (length rest) most (next rest) p (q rest)

leaves_quoted : (quote : ℕ) (bytes : List ℕ) → Leaves (length bytes) (quoted_value quote bytes)
leaves_quoted quote [] = tt
leaves_quoted quote (b ∷ bs) =
    cond_both (b == quote) (Some bs) (quoted_value quote bs) (Leaves (length (b ∷ bs))) (λ _. omega arith)
    (λ _. leaves_more (length bs) (length (b ∷ bs)) (quoted_value quote bs) (omega arith) (leaves_quoted quote bs))

leaves_unquoted : (bytes : List ℕ) → Leaves (length bytes) (unquoted_value bytes)
leaves_unquoted [] = tt
leaves_unquoted (b ∷ bs) = leaves_if (length (b ∷ bs)) (is_unquoted b) (Some (after_all is_unquoted bs)) (omega (arith, after_test is_unquoted bs))

leaves_value : (bytes : List ℕ) → Leaves (length bytes) (value bytes)
leaves_value [] = tt
leaves_value (b ∷ bs) =
    let more : (quote : ℕ) → Leaves (length (b ∷ bs)) (quoted_value quote bs) =
    λ quote. leaves_more (length bs) (length (b ∷ bs)) (quoted_value quote bs) (omega arith) (leaves_quoted quote bs) in
    cond_both (b == 34) (quoted_value 34 bs) (cond (b == 39) (quoted_value 39 bs) (unquoted_value (b ∷ bs))) (Leaves (length (b ∷ bs))) (λ _. more 34)
    (λ _. cond_both (b == 39) (quoted_value 39 bs) (unquoted_value (b ∷ bs)) (Leaves (length (b ∷ bs))) (λ _. more 39) (λ _. leaves_unquoted (b ∷ bs)))

leaves_value_or : (most : ℕ) (other bytes : List ℕ) → length other ≤ most → length bytes ≤ most → Leaves most (value_or other bytes)
leaves_value_or most other [] p q = p
leaves_value_or most other (b ∷ bs) p q =
    cond_both (b == 61) (value (tag_space bs)) (Some other) (Leaves most)
    (λ _. leaves_more (length (tag_space bs)) most (value (tag_space bs)) (omega (arith, after_test is_tag_space bs)) (leaves_value (tag_space bs))) (λ _. p)

leaves_specification : (bytes : List ℕ) → Leaves (length bytes) (specification bytes)
leaves_specification bytes = leaves_value_or (length bytes) bytes (tag_space bytes) (omega arith) (after_test is_tag_space bytes)

leaves_attribute : (bytes : List ℕ) → Leaves (length bytes) (attribute bytes)
leaves_attribute [] = tt
leaves_attribute (b ∷ bs) =
    let rest = after_all is_attribute_byte bs in
    leaves_if (length (b ∷ bs)) (begins_attribute b) (specification rest)
    (leaves_more (length rest) (length (b ∷ bs)) (specification rest) (omega (arith, after_test is_attribute_byte bs)) (leaves_specification rest))

leaves_attributes : (most : ℕ) (bytes : List ℕ) → Leaves (length bytes) (attributes most bytes)
leaves_attributes zero bytes = omega arith
leaves_attributes (suc most) bytes =
    cond_both (has_attribute bytes) (then_part (attribute (tag_space bytes)) (attributes most)) (Some bytes) (Leaves (length bytes))
    (λ _. leaves_after (length bytes) (attribute (tag_space bytes)) (attributes most)
    (leaves_more (length (tag_space bytes)) (length bytes) (attribute (tag_space bytes)) (after_test is_tag_space bytes) (leaves_attribute (tag_space bytes)))
    (leaves_attributes most))
    (λ _. omega arith)

leaves_name : (bytes : List ℕ) → Leaves (length bytes) (after_tag_name bytes)
leaves_name [] = tt
leaves_name (b ∷ bs) = leaves_if (length (b ∷ bs)) _ (Some (after_all is_tag_name_byte bs)) (omega (arith, after_test is_tag_name_byte bs))

leaves_tag_end : (bytes : List ℕ) → Leaves (length bytes) (tag_end bytes)
leaves_tag_end [] = tt
leaves_tag_end (b ∷ bs) = leaves_if (length (b ∷ bs)) (b == 62) (Some bs) (omega arith)

slash : (bytes : List ℕ) → length (without_slash bytes) ≤ length bytes
slash [] = omega arith
slash (b ∷ bs) = cond_both (b == 47) bs (b ∷ bs) (λ xs. length xs ≤ length (b ∷ bs)) (λ _. omega arith) (λ _. omega arith)

leaves_open_end : (bytes : List ℕ) → Leaves (length bytes) (open_end bytes)
leaves_open_end bytes =
    let rest = without_slash (tag_space bytes) in
    leaves_more (length rest) (length bytes) (tag_end rest) (omega (arith, slash (tag_space bytes), after_test is_tag_space bytes)) (leaves_tag_end rest)

leaves_closing_end : (bytes : List ℕ) → Leaves (length bytes) (closing_end bytes)
leaves_closing_end bytes = leaves_more (length (tag_space bytes)) (length bytes) (tag_end (tag_space bytes)) (after_test is_tag_space bytes)
    (leaves_tag_end (tag_space bytes))

leaves_open : (bytes : List ℕ) → Leaves (length bytes) (open_rest bytes)
leaves_open bytes =
    leaves_after (length bytes) (then_part (after_tag_name bytes) (attributes (length bytes))) open_end
    (leaves_after (length bytes) (after_tag_name bytes) (attributes (length bytes)) (leaves_name bytes) (leaves_attributes (length bytes))) leaves_open_end

leaves_closing : (bytes : List ℕ) → Leaves (length bytes) (closing_rest bytes)
leaves_closing bytes = leaves_after (length bytes) (after_tag_name bytes) closing_end (leaves_name bytes) leaves_closing_end

leaves_first : (end bytes : List ℕ) → Leaves (length bytes) (after_text end bytes)
leaves_first end [] = tt
leaves_first end (b ∷ bs) =
    cond_both (begins_with end (b ∷ bs)) (Some (drop (length end) (b ∷ bs))) (after_text end bs) (Leaves (length (b ∷ bs)))
    (λ _. dropped (length end) (b ∷ bs))
    (λ _. leaves_more (length bs) (length (b ∷ bs)) (after_text end bs) (omega arith) (leaves_first end bs))

leaves_comment : (bytes : List ℕ) → Leaves (length bytes) (comment_rest bytes)
leaves_comment bytes =
    cond_both (begins_with (codes ">") bytes) (Some (drop 1 bytes)) _ (Leaves (length bytes)) (λ _. dropped 1 bytes)
    (λ _. cond_both (begins_with (codes "->") bytes) (Some (drop 2 bytes)) (after_text (codes "-->") bytes) (Leaves (length bytes)) (λ _. dropped 2 bytes)
    (λ _. leaves_first (codes "-->") bytes))

-- what follows a mark of so many bytes leaves less than all
leaves_marked : (n : ℕ) (bytes : List ℕ) (o : Option (List ℕ)) → 0 < n → 0 < length bytes → Leaves (length (drop n bytes)) o → Leaves (length bytes - 1) o
leaves_marked n bytes o some bytes_some p = leaves_more (length (drop n bytes)) (length bytes - 1) o (omega (arith, length-drop n bytes)) p

leaves_where : (most : ℕ) (test : Bool) (o : Option (List ℕ)) → (test ≡ true → Leaves most o) → Leaves most (cond test o None)
leaves_where most test o p = cond_both test o None (Leaves most) p (λ _. tt)

leaves_either : (most : ℕ) (a b : Option (List ℕ)) → Leaves most a → Leaves most b → Leaves most (option_or a b)
leaves_either most None b p q = q
leaves_either most (Some rest) b p q = p

leaves_html : (bytes : List ℕ) → Leaves (length bytes - 1) (html_end bytes)
leaves_html bytes =
    let most = length bytes - 1 in
    leaves_either most (open_tag bytes) _
    (leaves_where most (begins_with (codes "<") bytes) (open_rest (drop 1 bytes))
    (λ e. leaves_marked 1 bytes (open_rest (drop 1 bytes)) (omega arith) (not_empty 60 [] bytes e) (leaves_open (drop 1 bytes))))
    (leaves_either most (closing_tag bytes) _
    (leaves_where most (begins_with (codes "</") bytes) (closing_rest (drop 2 bytes))
    (λ e. leaves_marked 2 bytes (closing_rest (drop 2 bytes)) (omega arith) (not_empty 60 (47 ∷ []) bytes e) (leaves_closing (drop 2 bytes))))
    (leaves_either most (comment bytes) _
    (leaves_where most (begins_with (codes "<!--") bytes) (comment_rest (drop 4 bytes))
    (λ e. leaves_marked 4 bytes (comment_rest (drop 4 bytes)) (omega arith) (not_empty 60 (codes "!--") bytes e) (leaves_comment (drop 4 bytes))))
    (leaves_either most (instruction bytes) _
    (leaves_where most (begins_with (codes "<?") bytes) (after_text (codes "?>") (drop 2 bytes))
    (λ e. leaves_marked 2 bytes (after_text (codes "?>") (drop 2 bytes)) (omega arith) (not_empty 60 (codes "?") bytes e)
    (leaves_first (codes "?>") (drop 2 bytes))))
    (leaves_either most (declaration bytes) (cdata bytes)
    (leaves_where most (begins_with (codes "<!") bytes && begins_with_letter (drop 2 bytes)) (after_text (codes ">") (drop 2 bytes))
    (λ e. leaves_marked 2 bytes (after_text (codes ">") (drop 2 bytes)) (omega arith)
    (not_empty 60 (codes "!") bytes (and_parts (begins_with (codes "<!") bytes) (begins_with_letter (drop 2 bytes)) e).0)
    (leaves_first (codes ">") (drop 2 bytes))))
    (leaves_where most (begins_with (codes "<![CDATA[") bytes) (after_text (codes "]]>") (drop 9 bytes))
    (λ e. leaves_marked 9 bytes (after_text (codes "]]>") (drop 9 bytes)) (omega arith) (not_empty 60 (codes "![CDATA[") bytes e)
    (leaves_first (codes "]]>") (drop 9 bytes))))))))

fit_html_leaf : (content : List ℕ) (found : Option (List ℕ)) → 0 < length content → Leaves (length content - 1) found
    → MayFit (length content) (html_leaf content found)
fit_html_leaf content None some p = tt
fit_html_leaf content (Some rest) some p = record { some = omega arith; within = omega arith }

fit_html : (on : Constructs) (content : List ℕ) → MayFit (length content) (html_text_at on content)
fit_html on content =
    let bytes = map html_byte content in
    cond_both (on.html_text && begins_with (codes "<") content) (html_leaf content (html_end bytes)) None (MayFit (length content))
    (λ e.
    let some = not_empty 60 [] content (and_parts on.html_text (begins_with (codes "<") content) e).1 in
    fit_html_leaf content (html_end bytes) some (subst (λ n. Leaves (n - 1) (html_end bytes)) (length-map content html_byte) (leaves_html bytes)))
    (λ _. tt)

-- ---- all of them

fit_leaf : (context : InlineContext) (content : List ℕ) → MayFit (length content) (leaf_at context content)
fit_leaf context content =
    let most = length content in
    let math = may_open_math context.options (run 36 content) in
    fit_or most (escape_at context.options.constructs content) _ (fit_escape context.options.constructs content)
    (fit_or most (escaped_break_at context.options.constructs content) _ (fit_break context.options.constructs content)
    (fit_or most (reference_at context.options.constructs context.names content) _ (fit_reference context.options.constructs context.names content)
    (fit_or most (code_text_at context.options.constructs content) _ (fit_raw 96 context.options.constructs.code_text content)
    (fit_or most (math_text_at context.options content) _ (fit_raw 36 math content)
    (fit_or most (autolink_at context.options.constructs content) _ (fit_autolink context.options.constructs content)
    (fit_or most (html_text_at context.options.constructs content) _ (fit_html context.options.constructs content)
    (fit_or most (line_end_at content) (line_spaces_at context.options.constructs content) (fit_line_end content)
    (fit_line_spaces context.options.constructs content))))))))

-- a construct takes a code at least, and none past the end of the content
pub leaf_fits : (context : InlineContext) (content : List ℕ) (l : Found) → leaf_at context content ≡ Some l → Fits (length content) l
leaf_fits context content l is = subst (MayFit (length content)) is (fit_leaf context content)

-- ---- literals

-- a name is no longer without its tail
pub tail_fits : (k : ℕ) (cs : List ℕ) → length (without_tail k cs) ≤ length cs
tail_fits zero [] = omega arith
tail_fits (suc k) [] = omega arith
tail_fits zero (c ∷ cs) =
    cond_both (is_cut c cs) (without_tail (cut_more c cs) cs) (c ∷ cs) (λ (l : List ℕ). length l ≤ length (c ∷ cs))
    (λ _. omega (arith, tail_fits (cut_more c cs) cs)) (λ _. omega arith)
tail_fits (suc k) (c ∷ cs) = omega (arith, tail_fits k cs)

run_fits : (cs : List ℕ) → length (literal_run cs) ≤ length cs
run_fits [] = omega arith
run_fits (c ∷ cs) =
    cond_both (ends_literal c cs) [] (c ∷ literal_run cs) (λ (l : List ℕ). length l ≤ length (c ∷ cs)) (λ _. omega arith) (λ _. omega (arith, run_fits cs))

name_fits : (cs : List ℕ) → length (literal_name cs) ≤ length cs
name_fits cs =
    let run = literal_run cs in
    omega (arith, run_fits cs, length-reverse run, tail_fits 0 (reverse run), length-reverse (without_tail 0 (reverse run)))

-- a text that comes first, in either case, is no longer than the content
text_fits : (text content : List ℕ) → begins_caselessly text content ≡ true → length text ≤ length content
text_fits text content h =
    let same : lower text ≡ lower (take (length text) content) = (bytes_eq-Decides (lower text) (lower (take (length text) content))).0 h in
    omega
    (arith, ap length same, length-map text to_ascii_lowercase, length-map (take (length text) content) to_ascii_lowercase, length-take (length text) content)

-- what begins a literal
abbrev StartFits : ℕ → Option LiteralStart → Type 0
StartFits most o = WhereSome (λ (s : LiteralStart). (0 < s.size) × (s.size ≤ most)) o

or_start_fits : (most : ℕ) (a b : Option LiteralStart) → StartFits most a → StartFits most b → StartFits most (or_start a b)
or_start_fits most None b p q = q
or_start_fits most (Some start) b p q = p

start_if : (most : ℕ) (test : Bool) (s : LiteralStart) (other : Option LiteralStart) → (test ≡ true → (0 < s.size) × (s.size ≤ most)) → StartFits most other
    → StartFits most (cond test (Some s) other)
start_if most test s other p q = cond_both test (Some s) other (StartFits most) p (λ _. q)

start_fits : (previous : Option ℕ) (content : List ℕ) → StartFits (length content) (literal_start_at previous content)
start_fits previous content =
    let most = length content in
    or_start_fits most (www_start previous content) (protocol_start previous content)
    (start_if most (may_precede_www previous && begins_caselessly (codes "www.") content) (literal_start Www 4) None
    (λ e. (omega arith, text_fits (codes "www.") content (and_parts (may_precede_www previous) (begins_caselessly (codes "www.") content) e).1)) tt)
    (cond_both (not (may_precede_protocol previous)) None _ (StartFits most) (λ _. tt)
    (λ _. start_if most (begins_caselessly (codes "http://") content) (literal_start Protocol 7) _
    (λ e. (omega arith, text_fits (codes "http://") content e))
    (start_if most (begins_caselessly (codes "https://") content) (literal_start Protocol 8) None
    (λ e. (omega arith, text_fits (codes "https://") content e)) tt)))

fit_named : (start : LiteralStart) (content : List InlineCode) (last : InlineCode) (name : List ℕ) → 0 < start.size → start.size + length name ≤ length content
    → MayFit (length content) (named_literal start content last name)
fit_named start content last name some within =
    fit_if (length content) _ (leaf (Literal start.kind (take start.size (codes_of content) ++ name) ∷ []) (start.size + length name))
    (λ _. record { some = omega (arith, some); within = within })

fit_after : (c : InlineCode) (cs : List InlineCode) (o : Option LiteralStart) → StartFits (length (c ∷ cs)) o → MayFit (length (c ∷ cs)) (literal_after c cs o)
fit_after c cs None p = tt
fit_after c cs (Some start) p =
    let all = codes_of (c ∷ cs) in
    let name = literal_name (drop start.size all) in
    fit_named start (c ∷ cs) (slice_index_or (c ∷ cs) (start.size - 1) c) name p.0
    (omega (arith, p.1, name_fits (drop start.size all), length-drop start.size all, length-map (c ∷ cs) (λ (k : InlineCode). k.code)))

fit_literal : (on : Constructs) (content : List InlineCode) → MayFit (length content) (literal_at on content)
fit_literal on [] = tt
fit_literal on (c ∷ cs) =
    cond_both on.gfm_autolink_literal (literal_after c cs (literal_start_at c.previous (codes_of (c ∷ cs)))) None (MayFit (length (c ∷ cs)))
    (λ _. fit_after c cs (literal_start_at c.previous (codes_of (c ∷ cs)))
    (subst (λ n. StartFits n (literal_start_at c.previous (codes_of (c ∷ cs)))) (length-map (c ∷ cs) (λ (k : InlineCode). k.code))
    (start_fits c.previous (codes_of (c ∷ cs)))))
    (λ _. tt)

-- a construct that holds no other, or a literal, takes a code at least, and none past the end of the content
pub here_fits : (context : InlineContext) (content : List InlineCode) (l : Found) → leaf_here context content ≡ Some l → Fits (length content) l
here_fits context content l is =
    subst (MayFit (length content)) is
    (fit_or (length content) (leaf_at context (codes_of content)) (literal_at context.options.constructs content)
    (subst (λ n. MayFit n (leaf_at context (codes_of content))) (length-map content (λ (k : InlineCode). k.code)) (fit_leaf context (codes_of content)))
    (fit_literal context.options.constructs content))

-- ---- what a `]` forms

two_brackets : (rest : List ℕ) → begins_with (codes "[]") rest ≡ true → 2 ≤ length rest
two_brackets [] e = absurd (true≢false (sym e))
two_brackets (a ∷ []) e = absurd (true≢false (sym (and_parts (91 == a) false e).1))
two_brackets (a ∷ b ∷ rest) e = omega arith

abbrev MayEnd : ℕ → Option LinkTail → Type 0
MayEnd most o = WhereSome (λ (e : LinkTail). e.size ≤ most) o

end_if : (most : ℕ) (test : Bool) (e : LinkTail) → e.size ≤ most → MayEnd most (cond test (Some e) None)
end_if most test e p = cond_both test (Some e) None (MayEnd most) (λ _. p) (λ _. tt)

end_by_text : (is_defined : List ℕ → Bool) (text rest : List ℕ) → MayEnd (length rest) (by_text is_defined text rest)
end_by_text is_defined text rest =
    end_if (length rest) (is_label_text text && is_defined text) (link_tail (Reference text) (cond (begins_with (codes "[]") rest) 2 0))
    (cond_both (begins_with (codes "[]") rest) 2 0 (λ n. n ≤ length rest) (two_brackets rest) (λ _. omega arith))

end_by_label : (is_defined : List ℕ → Bool) (text rest : List ℕ) (label : Option Part) → MayEnd (length rest) (by_label is_defined text rest label)
end_by_label is_defined text rest None = end_by_text is_defined text rest
end_by_label is_defined text rest (Some label) =
    end_if (length rest) (is_defined label.text) (link_tail (Reference label.text) (length rest - length label.rest)) (omega arith)

end_by_resource : (is_defined : List ℕ → Bool) (text rest : List ℕ) (found : Option LinkResource)
    → MayEnd (length rest) (by_resource is_defined text rest found)
end_by_resource is_defined text rest None = end_by_label is_defined text rest (label_at rest)
end_by_resource is_defined text rest (Some found) = omega arith

-- what a `]` forms takes no code past the end of the content
pub ended_fits : (is_defined : List ℕ → Bool) (text rest : List ℕ) (e : LinkTail) → label_end_at is_defined text rest ≡ Some e → e.size ≤ length rest
ended_fits is_defined text rest e is = subst (MayEnd (length rest)) is (end_by_resource is_defined text rest (resource_at rest))
