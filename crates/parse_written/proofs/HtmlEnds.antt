-- Raw HTML ends with `>` (CommonMark 6.6).
use Rattle.std.proofs.Common.{◌≡◌, ℕ, zero, suc, Bool, true, cond, eqb, List, [], ◌∷◌, ◌++◌, Option, None, Some, refl, sym, ap, ◌∙◌, append_assoc, length, drop, take, map, ◌-◌, arith}
use Rattle.parse_written.proofs.Prelude.{after_all, and_parts, begins_with, codes, cond_both, eqb-true, html_byte, html_end, length-append, prefix_len}
use Rattle.parse_written.proofs.Prelude.{take-append_seam, WhereSome, ◌==◌}
use Rattle.std.specs.Option.{option_or}
use Rattle.std.proofs.lemmas.Bool.Decides.{nat_tests}
use Rattle.std.proofs.lemmas.List.{length-map}
use Rattle.std.proofs.lemmas.Bool.{false≢true, true≢false}
use Rattle.definition_text.specs.Bytes.{without_slash}
use Rattle.definition_inline.specs.HtmlTags.{then_part, is_tag_space, tag_space, is_tag_name_byte, after_tag_name, begins_attribute, is_attribute_byte}
use Rattle.definition_inline.specs.HtmlTags.{is_unquoted, quoted_value, unquoted_value, value, value_or, specification, attribute, has_attribute, attributes}
use Rattle.definition_inline.specs.HtmlTags.{tag_end, open_end, closing_end, open_rest, closing_rest, open_tag, closing_tag}
use Rattle.definition_inline.specs.HtmlText.{after_text, comment_rest, comment, instruction, declaration, cdata}

-- what bytes end with
pub record EndsWith (bytes rest : List ℕ) : Type 0 where
  pub front : List ℕ
  pub parts : bytes ≡ front ++ rest

-- what follows a part, if there is one, is the end of bytes
abbrev Leaves : List ℕ → Option (List ℕ) → Type 0
Leaves bytes o = WhereSome (EndsWith bytes) o

-- the part ends with `>`
abbrev Closes : List ℕ → Option (List ℕ) → Type 0
Closes bytes o = WhereSome (λ rest. EndsWith bytes (62 ∷ rest)) o

whole : (bytes : List ℕ) → EndsWith bytes bytes
whole bytes = record { front = []; parts = refl }

later : (a b c : List ℕ) → EndsWith a b → EndsWith b c → EndsWith a c
later a b c first second = record {
  front = first.front ++ second.front;
  parts = first.parts ∙ ap (λ xs. first.front ++ xs) second.parts ∙ sym (append_assoc first.front second.front c);
}

after_byte : (b : ℕ) (bs rest : List ℕ) → EndsWith bs rest → EndsWith (b ∷ bs) rest
after_byte b bs rest p = record { front = b ∷ p.front; parts = ap (λ xs. b ∷ xs) p.parts }

dropped : (n : ℕ) (bs : List ℕ) → EndsWith bs (drop n bs)
dropped zero bs = whole bs
dropped (suc n) [] = whole []
dropped (suc n) (b ∷ bs) = after_byte b bs (drop n bs) (dropped n bs)

passed : (test : ℕ → Bool) (bs : List ℕ) → EndsWith bs (after_all test bs)
passed test bs = dropped (prefix_len test bs) bs

-- the end of an end
leaves_after : (a b : List ℕ) (o : Option (List ℕ)) → EndsWith a b → Leaves b o → Leaves a o
leaves_after a b None p q = tt
leaves_after a b (Some rest) p q = later a b rest p q

closes_after : (a b : List ℕ) (o : Option (List ℕ)) → EndsWith a b → Closes b o → Closes a o
closes_after a b None p q = tt
closes_after a b (Some rest) p q = later a b (62 ∷ rest) p q

leaves_where : (a : List ℕ) (test : Bool) (o : Option (List ℕ)) → (test ≡ true → Leaves a o) → Leaves a (cond test o None)
leaves_where a test o p = cond_both test o None (Leaves a) p (λ _. tt)

closes_where : (a : List ℕ) (test : Bool) (o : Option (List ℕ)) → (test ≡ true → Closes a o) → Closes a (cond test o None)
closes_where a test o p = cond_both test o None (Closes a) p (λ _. tt)

leaves_then : (a : List ℕ) (o : Option (List ℕ)) (part : List ℕ → Option (List ℕ)) → Leaves a o → ((b : List ℕ) → Leaves b (part b)) → Leaves a (then_part o part)
leaves_then a None part p q = tt
leaves_then a (Some rest) part p q = leaves_after a rest (part rest) p (q rest)

closes_then : (a : List ℕ) (o : Option (List ℕ)) (part : List ℕ → Option (List ℕ)) → Leaves a o → ((b : List ℕ) → Closes b (part b)) → Closes a (then_part o part)
closes_then a None part p q = tt
closes_then a (Some rest) part p q = closes_after a rest (part rest) p (q rest)

closes_either : (a : List ℕ) (o other : Option (List ℕ)) → Closes a o → Closes a other → Closes a (option_or o other)
closes_either a None other p q = q
closes_either a (Some rest) other p q = p

-- ---- tags

name_leaves : (bytes : List ℕ) → Leaves bytes (after_tag_name bytes)
name_leaves [] = tt
name_leaves (b ∷ bs) = leaves_where (b ∷ bs) _ (Some (after_all is_tag_name_byte bs)) (λ _. after_byte b bs _ (passed is_tag_name_byte bs))

quoted_leaves : (quote : ℕ) (bytes : List ℕ) → Leaves bytes (quoted_value quote bytes)
quoted_leaves quote [] = tt
quoted_leaves quote (b ∷ bs) =
    cond_both (b == quote) (Some bs) (quoted_value quote bs) (Leaves (b ∷ bs)) (λ _. after_byte b bs bs (whole bs))
    (λ _. leaves_after (b ∷ bs) bs (quoted_value quote bs) (after_byte b bs bs (whole bs)) (quoted_leaves quote bs))

unquoted_leaves : (bytes : List ℕ) → Leaves bytes (unquoted_value bytes)
unquoted_leaves [] = tt
unquoted_leaves (b ∷ bs) = leaves_where (b ∷ bs) (is_unquoted b) (Some (after_all is_unquoted bs)) (λ _. after_byte b bs _ (passed is_unquoted bs))

value_leaves : (bytes : List ℕ) → Leaves bytes (value bytes)
value_leaves [] = tt
value_leaves (b ∷ bs) =
    let next = after_byte b bs bs (whole bs) in
    cond_both (b == 34) (quoted_value 34 bs) (cond (b == 39) (quoted_value 39 bs) (unquoted_value (b ∷ bs))) (Leaves (b ∷ bs))
    (λ _. leaves_after (b ∷ bs) bs (quoted_value 34 bs) next (quoted_leaves 34 bs))
    (λ _. cond_both (b == 39) (quoted_value 39 bs) (unquoted_value (b ∷ bs)) (Leaves (b ∷ bs))
    (λ _. leaves_after (b ∷ bs) bs (quoted_value 39 bs) next (quoted_leaves 39 bs)) (λ _. unquoted_leaves (b ∷ bs)))

value_or_leaves : (other bytes : List ℕ) → EndsWith other bytes → Leaves other (value_or other bytes)
value_or_leaves other [] p = whole other
value_or_leaves other (b ∷ bs) p =
    cond_both (b == 61) (value (tag_space bs)) (Some other) (Leaves other)
    (λ _. leaves_after other (tag_space bs) (value (tag_space bs))
    (later other (b ∷ bs) (tag_space bs) p (after_byte b bs (tag_space bs) (passed is_tag_space bs))) (value_leaves (tag_space bs)))
    (λ _. whole other)

attribute_leaves : (bytes : List ℕ) → Leaves bytes (attribute bytes)
attribute_leaves [] = tt
attribute_leaves (b ∷ bs) =
    let rest = after_all is_attribute_byte bs in
    leaves_where (b ∷ bs) (begins_attribute b) (specification rest)
    (λ _. leaves_after (b ∷ bs) rest (specification rest) (after_byte b bs rest (passed is_attribute_byte bs))
    (value_or_leaves rest (tag_space rest) (passed is_tag_space rest)))

attributes_leave : (most : ℕ) (bytes : List ℕ) → Leaves bytes (attributes most bytes)
attributes_leave zero bytes = whole bytes
attributes_leave (suc most) bytes =
    let rest = tag_space bytes in
    cond_both (has_attribute bytes) (then_part (attribute rest) (attributes most)) (Some bytes) (Leaves bytes)
    (λ _. leaves_after bytes rest (then_part (attribute rest) (attributes most)) (passed is_tag_space bytes)
    (leaves_then rest (attribute rest) (attributes most) (attribute_leaves rest) (attributes_leave most)))
    (λ _. whole bytes)

end_closes : (bytes : List ℕ) → Closes bytes (tag_end bytes)
end_closes [] = tt
end_closes (b ∷ bs) = closes_where (b ∷ bs) (b == 62) (Some bs) (λ e. record { front = []; parts = ap (λ x. x ∷ bs) (eqb-true b 62 e) })

unslashed : (bytes : List ℕ) → EndsWith bytes (without_slash bytes)
unslashed [] = whole []
unslashed (b ∷ bs) = cond_both (b == 47) bs (b ∷ bs) (EndsWith (b ∷ bs)) (λ _. after_byte b bs bs (whole bs)) (λ _. whole (b ∷ bs))

open_end_closes : (bytes : List ℕ) → Closes bytes (open_end bytes)
open_end_closes bytes =
    let rest = tag_space bytes in
    closes_after bytes (without_slash rest) (open_end bytes) (later bytes rest (without_slash rest) (passed is_tag_space bytes) (unslashed rest))
    (end_closes (without_slash rest))

closing_end_closes : (bytes : List ℕ) → Closes bytes (closing_end bytes)
closing_end_closes bytes = closes_after bytes (tag_space bytes) (closing_end bytes) (passed is_tag_space bytes) (end_closes (tag_space bytes))

open_closes : (bytes : List ℕ) → Closes bytes (open_tag bytes)
open_closes bytes =
    let rest = drop 1 bytes in
    closes_where bytes _ (open_rest rest)
    (λ _. closes_after bytes rest (open_rest rest) (dropped 1 bytes)
    (closes_then rest (then_part (after_tag_name rest) (attributes (length rest))) open_end
    (leaves_then rest (after_tag_name rest) (attributes (length rest)) (name_leaves rest) (attributes_leave (length rest))) open_end_closes))

closing_closes : (bytes : List ℕ) → Closes bytes (closing_tag bytes)
closing_closes bytes =
    let rest = drop 2 bytes in
    closes_where bytes _ (closing_rest rest)
    (λ _. closes_after bytes rest (closing_rest rest) (dropped 2 bytes)
    (closes_then rest (after_tag_name rest) closing_end (name_leaves rest) closing_end_closes))

-- ---- other HTML

-- bytes that begin with a text
begun : (text xs : List ℕ) → begins_with text xs ≡ true → xs ≡ text ++ drop (length text) xs
begun [] xs h = refl
begun (t ∷ ts) [] h = absurd (false≢true h)
begun (t ∷ ts) (x ∷ xs) h =
    let parts = and_parts (eqb t x) (begins_with ts xs) h in
    ap (λ y. y ∷ xs) (sym (eqb-true t x parts.0)) ∙ ap (λ ys. t ∷ ys) (begun ts xs parts.1)

-- a text that ends with `>`
text_closes : (front bytes : List ℕ) → Closes bytes (after_text (front ++ 62 ∷ []) bytes)
text_closes front [] = tt
text_closes front (b ∷ bs) =
    let text = front ++ 62 ∷ [] in
    let rest = drop (length text) (b ∷ bs) in
    cond_both (begins_with text (b ∷ bs)) (Some rest) (after_text text bs) (Closes (b ∷ bs))
    (λ e. record { front = front; parts = begun text (b ∷ bs) e ∙ append_assoc front (62 ∷ []) rest })
    (λ _. closes_after (b ∷ bs) bs (after_text text bs) (after_byte b bs bs (whole bs)) (text_closes front bs))

comment_closes : (bytes : List ℕ) → Closes bytes (comment_rest bytes)
comment_closes bytes =
    cond_both (begins_with (codes ">") bytes) (Some (drop 1 bytes)) (cond (begins_with (codes "->") bytes) (Some (drop 2 bytes)) (after_text (codes "-->") bytes))
    (Closes bytes) (λ e. record { front = []; parts = begun (codes ">") bytes e })
    (λ _. cond_both (begins_with (codes "->") bytes) (Some (drop 2 bytes)) (after_text (codes "-->") bytes) (Closes bytes)
    (λ e. record { front = codes "-"; parts = begun (codes "->") bytes e }) (λ _. text_closes (codes "--") bytes))

-- what is dropped, and what closes in the rest
behind : (n : ℕ) (test : Bool) (bytes : List ℕ) (o : Option (List ℕ)) → Closes (drop n bytes) o → Closes bytes (cond test o None)
behind n test bytes o p = closes_where bytes test o (λ _. closes_after bytes (drop n bytes) o (dropped n bytes) p)

pub html_closes : (bytes : List ℕ) → WhereSome (λ rest. EndsWith bytes (62 ∷ rest)) (html_end bytes)
html_closes bytes =
    closes_either bytes (open_tag bytes) _ (open_closes bytes)
    (closes_either bytes (closing_tag bytes) _ (closing_closes bytes)
    (closes_either bytes (comment bytes) _ (behind 4 _ bytes (comment_rest (drop 4 bytes)) (comment_closes (drop 4 bytes)))
    (closes_either bytes (instruction bytes) _ (behind 2 _ bytes (after_text (codes "?>") (drop 2 bytes)) (text_closes (codes "?") (drop 2 bytes)))
    (closes_either bytes (declaration bytes) (cdata bytes) (behind 2 _ bytes (after_text (codes ">") (drop 2 bytes)) (text_closes [] (drop 2 bytes)))
    (behind 9 _ bytes (after_text (codes "]]>") (drop 9 bytes)) (text_closes (codes "]]") (drop 9 bytes)))))))

-- ---- its codes

-- codes that stand for bytes with a `>` among them
record IsSplit (content rest : List ℕ) : Type 0 where
  front : List ℕ
  others : List ℕ
  parts : content ≡ front ++ 62 ∷ others
  left : length others ≡ length rest

mark_code : (c : ℕ) → html_byte c ≡ 62 → c ≡ 62
mark_code c is = grind (arith, nat_tests)

split_codes : (content front rest : List ℕ) → map html_byte content ≡ front ++ 62 ∷ rest → IsSplit content rest
split_codes [] [] rest is = absurd cc
split_codes [] (x ∷ front) rest is = absurd cc
split_codes (c ∷ cs) [] rest is =
    let first : html_byte c ≡ 62 = cc in
    let others : map html_byte cs ≡ rest = cc in
    record {
      front = [];
      others = cs;
      parts = ap (λ x. x ∷ cs) (mark_code c first);
      left = sym (length-map cs html_byte) ∙ ap length others;
    }
split_codes (c ∷ cs) (x ∷ front) rest is =
    let others : map html_byte cs ≡ front ++ 62 ∷ rest = cc in
    let p = split_codes cs front rest others in
    record { front = c ∷ p.front; others = p.others; parts = ap (λ xs. c ∷ xs) p.parts; left = p.left }

-- the codes before what follows raw HTML end with `>`
pub html_closed : (content rest : List ℕ) → EndsWith (map html_byte content) (62 ∷ rest)
    → (front : List ℕ) × (take (length content - length rest) content ≡ front ++ 62 ∷ [])
html_closed content rest ends =
    let p = split_codes content ends.front rest ends.parts in
    let text = p.front ++ 62 ∷ [] in
    let all : content ≡ text ++ p.others = p.parts ∙ sym (append_assoc p.front (62 ∷ []) p.others) in
    let size : length content - length rest ≡ length text = omega (arith, p.left, ap length all, length-append text p.others) in
    (p.front, ap (λ n. take n content) size ∙ ap (take (length text)) all ∙ take-append_seam text p.others)

-- some of the codes before it begin with `<` if all do
pub taken_begins : (count : ℕ) (content front : List ℕ) → take count content ≡ front ++ 62 ∷ [] → begins_with (codes "<") content ≡ true
    → begins_with (codes "<") (take count content) ≡ true
taken_begins zero content front is begins = absurd (omega (arith, ap length is, length-append front (62 ∷ [])))
taken_begins (suc count) [] front is begins = absurd (true≢false (sym begins))
taken_begins (suc count) (c ∷ cs) front is begins = begins
