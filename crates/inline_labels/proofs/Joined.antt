-- The words of a label one after another.
use Rattle.std.proofs.Common.{◌≡◌, ℕ, List, [], ◌∷◌, ◌++◌, refl, sym, ap, ◌∙◌, append_assoc}
use Rattle.std.specs.List.{flat_map, join_by}
use Rattle.definition_text.specs.Content.{content_codes}
use Rattle.definition_inline.specs.LabelMatch.{words, fold_word, normal_label}
use Rattle.inline_labels.proofs.LabelWords.{words-content_codes}

-- words with their case folded, with this before the first one and a space before the others
abbrev pub joined : List ℕ → List (List ℕ) → List ℕ
joined separator [] = []
joined separator (w ∷ ws) = separator ++ (fold_word w ++ joined (32 ∷ []) ws)

joined-space : (ws : List (List ℕ)) → joined (32 ∷ []) ws ≡ flat_map (λ w. (32 ∷ []) ++ fold_word w) ws
joined-space [] = refl
joined-space (w ∷ ws) = ap (λ t. (32 ∷ fold_word w) ++ t) (joined-space ws)

joined-nil : (ws : List (List ℕ)) → joined [] ws ≡ join_by fold_word (32 ∷ []) ws
joined-nil [] = refl
joined-nil (w ∷ ws) = ap (λ t. fold_word w ++ t) (joined-space ws)

-- the words of a label's bytes are those of its codes
pub joined-normal : (bs : List ℕ) → joined [] (words bs) ≡ normal_label (content_codes bs)
joined-normal bs = joined-nil (words bs) ∙ ap (join_by fold_word (32 ∷ [])) (sym (words-content_codes bs))

-- one word more
pub joined-step : (old between new separator word : List ℕ) (left : List (List ℕ)) → between ≡ old ++ separator → new ≡ between ++ fold_word word
    → new ++ joined (32 ∷ []) left ≡ old ++ joined separator (word ∷ left)
joined-step old between new separator word left first second =
    ap (λ t. t ++ joined (32 ∷ []) left) (second ∙ ap (λ t. t ++ fold_word word) first)
    ∙ append_assoc (old ++ separator) (fold_word word) (joined (32 ∷ []) left)
    ∙ append_assoc old separator (fold_word word ++ joined (32 ∷ []) left)
