-- Data in a text spells its bytes.
use Rattle.std.proofs.Common.{◌≡◌, ◌+◌, ◌-◌, ℕ, zero, suc, Bool, false, List, [], ◌∷◌, ◌++◌, length, drop, take, map, refl, sym, ap, subst, ◌∙◌, arith}
use Rattle.parse_inline.proofs.Prelude.{after_bytes, AreNext, ArePlain, between, Data, data_nodes, End, end_after, end_at, end_in, EndNoLine, ends_line}
use Rattle.parse_inline.proofs.Prelude.{inlines_of, is_eol, IsWhole, leaves, line_in_content, list_any, Names, no_ends, one, or_from, plain_both, plain_none}
use Rattle.parse_inline.proofs.Prelude.{plain_one, StandsInContent, Stop, Walk, whole_end}
use Rattle.event_meaning.specs.Texts.{append}
use Rattle.parse_output.specs.Forest.{byte_node, byte_nodes}

-- what ends no line in codes ends none in bytes
pub dark_text : (xs : List ℕ) → EndNoLine xs → list_any ends_line xs ≡ false
dark_text xs h = no_ends xs (none xs h)
  where
    none : (ys : List ℕ) → EndNoLine ys → list_any is_eol ys ≡ false
    none [] h = refl
    none (y ∷ ys) h = or_from (is_eol y) (list_any is_eol ys) h.0 (none ys h.1)

plain_bytes : (index count : ℕ) → ArePlain (byte_nodes index count)
plain_bytes index zero = plain_none
plain_bytes index (suc count) =
    plain_both (one (byte_node index)) (byte_nodes (index + 1) count) (plain_one (byte_node index) refl plain_none) (plain_bytes (index + 1) count)

module _ (names : Names) (text : List ℕ) (linked : Bool) where
  bytes_spell : (index : ℕ) (front line : List ℕ) → AreNext text (end_at index 0) (front ++ line)
      → inlines_of names text linked (byte_nodes index (length front)) ≡ leaves (map Data front)
  bytes_spell index [] line are = refl
  bytes_spell index (b ∷ bs) line are =
      let size : (index + 1) - index ≡ 1 = omega arith in
      let byte : between index (index + 1) text ≡ b ∷ [] = ap (λ k. take k (drop index text)) size ∙ ap (take 1) are.0 in
      ap (λ xs. append (leaves (map Data xs)) (inlines_of names text linked (byte_nodes (index + 1) (length bs)))) byte
      ∙ ap (append (leaves (Data b ∷ []))) (bytes_spell (index + 1) bs line are.1)

  data_at : (e : End) (front line : List ℕ) → e.owed ≡ 0 → AreNext text e (front ++ line)
      → inlines_of names text linked (data_nodes text e (end_after e (length front))) ≡ leaves (map Data front)
  data_at e front line whole are =
      let i = e.index in
      let at = whole_end e whole in
      let size : (i + length front) - i ≡ length front = omega arith in
      ap (λ from. inlines_of names text linked (data_nodes text from (end_after from (length front)))) at
      ∙ ap (λ to. inlines_of names text linked (data_nodes text (end_at i 0) to)) (after_bytes i (length front))
      ∙ ap (λ k. inlines_of names text linked (byte_nodes i k)) size
      ∙ bytes_spell i front line (subst (λ from. AreNext text from (front ++ line)) at are)

  -- the next bytes of a content, which end no line, as data
  pub data_spells : {A : Type 0} (stop : Stop) (w : Walk A) (front content : List ℕ) → StandsInContent text (front ++ content) stop w
      → list_any ends_line front ≡ false
      → IsWhole w → inlines_of names text linked (data_nodes text (end_in w.out) (end_after (end_in w.out) (length front))) ≡ leaves (map Data front)
  data_spells stop w front content st dark whole =
      let ahead = line_in_content text stop w front content st dark in
      data_at (end_in w.out) front ahead.line whole (subst (λ e. AreNext text e (front ++ ahead.line)) (sym ahead.stands.at) ahead.stands.next)

pub data_plain : (text : List ℕ) (from to : End) → ArePlain (data_nodes text from to)
data_plain text from to = plain_bytes _ _
