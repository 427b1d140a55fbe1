-- Spaces and tabs at the end of a line, in codes and in bytes.
use Rattle.std.proofs.Common.{◌≡◌, ℕ, ◌+◌, ◌-◌, ◌<◌, ◌≤◌, List, true, false, ◌&&◌, eqb, leb, refl, sym, ap, ◌∙◌, get_or, length, drop, take, arith}
use Rattle.std.proofs.lemmas.Bool.{false≢true, and_left, and_right, lt-leb, le-leb}
use Rattle.std.proofs.lemmas.List.Sums.{prefix_len_passes, prefix_len-le-length}
use Rattle.std.specs.List.{take_while, list_all}
use Rattle.definition_text.specs.Columns.{is_white, indent, bare}
use Rattle.definition_text.specs.Content.{content_codes}
use Rattle.text_lines.proofs.Ascii.{space_ascii}
use Rattle.definition_inline.specs.HardBreak.{is_trailing_break, ends_inner_line}
use Rattle.inline_leaves.specs.Leaves.{IsEnd, IsWhite}
use Rattle.inline_leaves.proofs.Codes.{prefix_codes, after_codes, while_codes, prefix_plain, plain_size, end_after}

pub indent_codes : (xs : List ℕ) → indent (content_codes xs) ≡ indent xs
indent_codes xs = prefix_codes is_white refl refl xs

pub bare_codes : (xs : List ℕ) → bare (content_codes xs) ≡ content_codes (bare xs)
bare_codes xs = after_codes is_white refl refl xs

pub spaces_codes : (xs : List ℕ) → take_while is_white (content_codes xs) ≡ take_while is_white xs
spaces_codes xs = while_codes is_white refl refl xs

-- the codes before the end of white space
pub size_white : (xs : List ℕ) → length (content_codes xs) ≡ indent xs + length (content_codes (bare xs))
size_white xs = plain_size (indent xs) xs (prefix_len-le-length is_white xs) (prefix_plain is_white refl xs (indent xs) (omega arith))

pub is_white_size : (xs : List ℕ) (n : ℕ) → n ≡ indent xs → IsWhite xs n
is_white_size xs n e = record {
  within = omega (arith, prefix_len-le-length is_white xs);
  indent = e ∙ sym (indent_codes xs);
  bare = ap (λ k. content_codes (drop k xs)) e ∙ sym (bare_codes xs);
  codes = size_white xs ∙ ap (λ k. k + length (content_codes (drop k xs))) (sym e);
  passes = λ k lt. prefix_len_passes is_white xs k 0 (omega arith);
}

pub trailing_is : (xs : List ℕ) (n : ℕ) → n ≡ indent xs
    → is_trailing_break (content_codes xs) ≡ (leb 2 n && (list_all (λ b. eqb b 32) (take n xs) && ends_inner_line (content_codes (drop n xs))))
trailing_is xs n e =
    ap (λ k. leb 2 k && (list_all (λ b. eqb b 32) (take_while is_white (content_codes xs)) && ends_inner_line (bare (content_codes xs))))
    (indent_codes xs ∙ sym e)
    ∙ ap (λ s. leb 2 n && (list_all (λ b. eqb b 32) s && ends_inner_line (bare (content_codes xs)))) (spaces_codes xs ∙ ap (λ k. take k xs) (sym e))
    ∙ ap (λ s. leb 2 n && (list_all (λ b. eqb b 32) (take n xs) && ends_inner_line s)) (bare_codes xs ∙ ap (λ k. content_codes (drop k xs)) (sym e))

pub trailing_short : (xs : List ℕ) (n : ℕ) → n ≡ indent xs → n < 2 → is_trailing_break (content_codes xs) ≡ false
trailing_short xs n e short = trailing_is xs n e ∙ and_left (leb 2 n) _ (lt-leb 2 n short)

pub trailing_tab : (xs : List ℕ) (n : ℕ) → n ≡ indent xs → list_all (λ b. eqb b 32) (take n xs) ≡ false → is_trailing_break (content_codes xs) ≡ false
trailing_tab xs n e tab = trailing_is xs n e ∙ and_right (leb 2 n) _ (and_left _ _ tab)

pub trailing_spaces : (xs : List ℕ) (n : ℕ) → n ≡ indent xs → 2 ≤ n → list_all (λ b. eqb b 32) (take n xs) ≡ true
    → is_trailing_break (content_codes xs) ≡ ends_inner_line (content_codes (drop n xs))
trailing_spaces xs n e some spaces =
    trailing_is xs n e ∙ ap (λ t. t && (list_all (λ b. eqb b 32) (take n xs) && ends_inner_line (content_codes (drop n xs)))) (le-leb 2 n some)
    ∙ ap (λ t. t && ends_inner_line (content_codes (drop n xs))) spaces

-- the last of some white bytes
pub white_byte : (b : ℕ) → b < 256 → is_white b ≡ true → (b < 128) × (b ≡ 13 → ⊥)
white_byte b byte h = (space_ascii b byte h, λ e. false≢true (ap is_white (sym e) ∙ h))

pub white_end : (xs : List ℕ) (n : ℕ) → IsWhite xs n → 0 < n → ((k : ℕ) → get_or xs k 0 < 256) → IsEnd xs n
white_end xs n white some bytes =
    let last = white_byte (get_or xs (n - 1) 0) (bytes (n - 1)) (white.passes (n - 1) (omega arith)) in
    end_after xs n some white.within last.0 last.1
