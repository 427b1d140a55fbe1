-- Columns that are left of a tab stand before a text like spaces.
use Rattle.std.proofs.Common.{◌≡◌, ℕ, suc, zero, ◌+◌, ◌-◌, List, ◌∷◌, ◌++◌, refl, ap, ◌∙◌, length, drop, take, arith}
use Rattle.block_cells.proofs.Prelude.{is_bar_or_colon, is_blank, is_white, list_any, prefix_len, replicate, suffix_len, trim}

pub any_columns : (owed : ℕ) (text : List ℕ) → list_any is_bar_or_colon (replicate owed 256 ++ text) ≡ list_any is_bar_or_colon text
any_columns zero text = refl
any_columns (suc owed) text = any_columns owed text

pub blank_columns : (owed : ℕ) (text : List ℕ) → is_blank (replicate owed 256 ++ text) ≡ is_blank text
blank_columns zero text = refl
blank_columns (suc owed) text = blank_columns owed text

pub bare_columns : (owed : ℕ) (text : List ℕ)
    → drop (prefix_len is_white (replicate owed 256 ++ text)) (replicate owed 256 ++ text) ≡ drop (prefix_len is_white text) text
bare_columns zero text = refl
bare_columns (suc owed) text =
    let n = prefix_len is_white (replicate owed 256 ++ text) in
    let e : 1 + n ≡ suc n = omega arith in
    ap (λ k. drop k (256 ∷ (replicate owed 256 ++ text))) e ∙ bare_columns owed text

pub trimmed_columns : (owed : ℕ) (text : List ℕ) → trim (replicate owed 256 ++ text) ≡ trim text
trimmed_columns owed text = ap (λ rest. take (length rest - suffix_len is_white rest) rest) (bare_columns owed text)
