-- What nodes of a string spell.
use Rattle.parse_strings.proofs.Prelude.{after_bytes, append, AreNext, byte_nodes, Cons, cut, data_nodes, End, end_after, end_at, if◌then◌else◌, kids_of, Name}
use Rattle.parse_strings.proofs.Prelude.{Names, Nil, node_name, Nodes, one, same_name, string_of, string_part, text_of, token, void_nodes, ◌&&◌}
use Rattle.std.specs.Prelude.{◌==◌}
use Rattle.std.proofs.Common.{◌≡◌, ℕ, suc, ◌+◌, ◌-◌, ◌<◌, true, false, List, [], ◌∷◌, ◌++◌, refl, sym, ap, subst, ◌∙◌, append_assoc, drop, take, length, arith}
use Rattle.std.proofs.lemmas.Bool.Decides.{nat_tests}
use Rattle.engine_events.specs.Columns.{between}
use Rattle.engine_events.specs.declared.event.Name.TheVariants as n

-- an end at which no tab owes columns
pub whole_end : (e : End) → e.owed ≡ 0 → e ≡ end_at e.index 0
whole_end e whole = ap (end_at e.index) whole

module _ (text : List ℕ) where
  take_next : (index : ℕ) (front line : List ℕ) → AreNext text (end_at index 0) (front ++ line) → take (length front) (drop index text) ≡ front
  take_next index [] line are = refl
  take_next index (b ∷ bs) line are =
      ap (take (suc (length bs))) are.0 ∙ ap (λ others. b ∷ others) (take_next (index + 1) bs line are.1)

  -- the bytes of a token are those that were next
  pub token_text : (name : Name) (index : ℕ) (front line : List ℕ) → AreNext text (end_at index 0) (front ++ line)
      → text_of text (token text name index (length front)) ≡ front
  token_text name index front line are =
      let size : (index + length front) - index ≡ length front = omega arith in
      ap (λ k. take k (drop index text)) size ∙ take_next index front line are

  -- a token of some size
  pub void_one : (name : Name) (e : End) (size : ℕ) → e.owed ≡ 0 → 0 < size → same_name name n.Data ≡ false
      → void_nodes text name e (end_after e size) ≡ one (token text name e.index size)
  void_one name e size whole some other =
      let i = e.index in
      let apart : ((i + size) == i) ≡ false = grind (arith, nat_tests, some) in
      ap (λ from. void_nodes text name from (end_after from size)) (whole_end e whole)
      ∙ ap (void_nodes text name (end_at i 0)) (after_bytes i size)
      ∙ ap (λ same. if same && (0 == 0) then Nil else cut (token text name i size)) apart
      ∙ ap (λ same. if same && true then byte_nodes i ((i + size) - i) else one (token text name i size)) other

  module _ (names : Names) where
    pub string_append : (ns ms : Nodes) → string_of names text (append ns ms) ≡ string_of names text ns ++ string_of names text ms
    string_append Nil ms = refl
    string_append (Cons node ns) ms =
        let part = string_part names text (node_name node) (text_of text node) (kids_of node) in
        ap (λ others. part ++ others) (string_append ns ms) ∙ sym (append_assoc part (string_of names text ns) (string_of names text ms))

    string_bytes : (index : ℕ) (front line : List ℕ) → AreNext text (end_at index 0) (front ++ line)
        → string_of names text (byte_nodes index (length front)) ≡ front
    string_bytes index [] line are = refl
    string_bytes index (b ∷ bs) line are =
        let size : (index + 1) - index ≡ 1 = omega arith in
        let byte : between index (index + 1) text ≡ b ∷ [] = ap (λ k. take k (drop index text)) size ∙ ap (take 1) are.0 in
        ap (λ xs. xs ++ string_of names text (byte_nodes (index + 1) (length bs))) byte
        ∙ ap (λ others. b ∷ others) (string_bytes (index + 1) bs line are.1)

    -- data spells its bytes
    pub data_string : (e : End) (front line : List ℕ) → e.owed ≡ 0 → AreNext text e (front ++ line)
        → string_of names text (data_nodes text e (end_after e (length front))) ≡ front
    data_string e front line whole are =
        let i = e.index in
        let at = whole_end e whole in
        let size : (i + length front) - i ≡ length front = omega arith in
        ap (λ from. string_of names text (data_nodes text from (end_after from (length front)))) at
        ∙ ap (λ to. string_of names text (data_nodes text (end_at i 0) to)) (after_bytes i (length front))
        ∙ ap (λ k. string_of names text (byte_nodes i k)) size
        ∙ string_bytes i front line (subst (λ from. AreNext text from (front ++ line)) at are)

-- after some bytes no tab owes columns
pub still_whole : (e : End) (count : ℕ) → e.owed ≡ 0 → (end_after e count).owed ≡ 0
still_whole e count whole = ap (λ from. (end_after from count).owed) (whole_end e whole) ∙ ap (λ (x : End). x.owed) (after_bytes e.index count)
