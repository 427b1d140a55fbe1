-- What the tools print, byte by byte, is what the definition says of the whole text.
use Rattle.std.proofs.Common.{◌≡◌, ℕ, List, [], ◌∷◌, ◌++◌, Bool, true, false, ◌&&◌, ◌==◌, codes, refl, sym, ap, ◌∙◌, subst}
use Rattle.std.specs.Prelude.{if◌then◌else◌}
use Rattle.std.proofs.lemmas.Bool.{and_parts, eqb-true, cond-false}
use Rattle.std.proofs.lemmas.List.{append-nil}
use Rattle.std.proofs.lemmas.List.Concat.{flat_map-append}
use Rattle.definition_text.specs.Encode.{plain, plain_byte, encoded_byte, replacement_character}
use Rattle.definition_page.specs.GfmTagfilter.{is_filtered, filter_tags}
use Rattle.html_escape.specs.Replaced.{replace_bytes}
use Rattle.html_escape.specs.Tools.{text_byte, encoded_if, raw_byte, filtered_if}

pub replaced_text : (html : Bool) (text : List ℕ) → replace_bytes (text_byte html) text ≡ encoded_if html text
replaced_text true [] = refl
replaced_text true (b ∷ bs) = ap (λ others. encoded_byte b ++ others) (replaced_text true bs)
replaced_text false [] = refl
replaced_text false (b ∷ bs) = ap (λ others. plain_byte b ++ others) (replaced_text false bs)

-- a byte, or the reference in place of `<`
plain_one : (b : ℕ) (filtered : Bool) → (filtered ≡ true → b ≡ 60)
    → plain (if filtered then codes "&lt;" else b ∷ []) ≡ (if b == 0 then replacement_character else (if filtered then codes "&lt;" else b ∷ []))
plain_one b true h = sym (cond-false (b == 0) replacement_character (codes "&lt;") (subst (λ n. (n == 0) ≡ false) (sym (h refl)) refl))
plain_one b false h = append-nil (plain_byte b)

raw_more : (filters : Bool) (b : ℕ) (bs : List ℕ) → plain (filtered_if filters (b ∷ bs)) ≡ raw_byte filters b bs ++ plain (filtered_if filters bs)
raw_more true b bs =
    let filtered = (b == 60) && is_filtered bs in
    flat_map-append plain_byte (if filtered then codes "&lt;" else b ∷ []) (filter_tags bs)
    ∙ ap (λ x. x ++ plain (filter_tags bs)) (plain_one b filtered (λ h. eqb-true b 60 (and_parts (b == 60) (is_filtered bs) h).0))
raw_more false b bs = refl

pub replaced_raw : (filters : Bool) (html : List ℕ) → replace_bytes (raw_byte filters) html ≡ plain (filtered_if filters html)
replaced_raw true [] = refl
replaced_raw false [] = refl
replaced_raw true (b ∷ bs) = ap (λ others. raw_byte true b bs ++ others) (replaced_raw true bs) ∙ sym (raw_more true b bs)
replaced_raw false (b ∷ bs) = ap (λ others. raw_byte false b bs ++ others) (replaced_raw false bs) ∙ sym (raw_more false b bs)
