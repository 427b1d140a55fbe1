-- What is written of a line, as pieces.
use Rattle.std.proofs.Common.{◌≡◌, ℕ, ◌+◌, ◌-◌, ◌<◌, zero, suc, Bool, false, ◌||◌, List, [], ◌∷◌, ◌++◌, inl, inr, refl, sym, ap, ◌∙◌, subst, arith, drop, take, length}
use Rattle.std.proofs.Common.{cond, eqb, get_or, append_assoc, length-append, length-drop}
use Rattle.parse_lines.proofs.Prelude.{Between, drop-append_seam, IsInLine, LineRest, Standing, StandsAt}
use Rattle.parse_lines.proofs.Prelude.{bytes_of, cases_Bool, codes_from, cond-false, cond-true, drop-drop, End, end_at, end_in, ending_text, ends_line, eqb-true}
use Rattle.parse_lines.proofs.Prelude.{is_byte, is_eol, is_quote, is_tab_column, IsLineOf, LineEnding, list_any, list_any-append, Name, Option, or_parts}
use Rattle.parse_lines.proofs.Prelude.{Output, prefix_len, replicate, Rest, rest_start, tab_column, take-append-drop, void_nodes, whole, width, Writes}
use Rattle.std.proofs.Common.{None, Some}
use Rattle.std.proofs.lemmas.Bool.{ne_eqb}
use Rattle.std.proofs.lemmas.List.Elements.{filter-append}
use Rattle.markdown_options.specs.declared.line_ending.LineEnding.TheVariants.{CarriageReturn, CarriageReturnLineFeed, LineFeed}
use Rattle.definition_block.specs.Container.{Container, Quote, Item, Footnote}
use Rattle.definition_text.specs.Content.{ending_code}
use Rattle.engine_events.specs.declared.event.Name.TheVariants.{SpaceOrTab}
use Rattle.event_definition.specs.Containers.{prefix_pieces}
use Rattle.event_definition.specs.Pieces.{token}
use Rattle.event_definition.specs.Written.{before_rest}
use Rattle.parse_pieces.proofs.Sizes.{columns_rest, line_size}
use Rattle.parse_pieces.proofs.Written.{pieces_token}
use Rattle.parse_pieces.specs.Sizes.{codes_size, columns_of}
use Rattle.parse_pieces.specs.Written.{WritesPieces, passed}
use Rattle.parse_lines.proofs.Columns.{IsAmong, among, codes_first, inside, past, tail_bytes}
use Rattle.parse_lines.proofs.Ends.{start_among}

-- ---- no code of a line is an ending

dark_columns : (k : ℕ) → list_any is_eol (replicate k tab_column) ≡ false
dark_columns zero = refl
dark_columns (suc k) = dark_columns k

dark_codes : (c : ℕ) (bs : List ℕ) → list_any ends_line bs ≡ false → ((k : ℕ) → get_or bs k 0 < 256) → list_any is_eol (codes_from c bs) ≡ false
dark_codes c [] dark bytes = refl
dark_codes c (b ∷ bs) dark bytes =
    let parts = or_parts (ends_line b) (list_any ends_line bs) dark in
    let more : eqb b 257 ≡ false = let less = bytes 0 in ne_eqb b 257 (λ (e : b ≡ 257). omega (arith, less, e)) in
    let none : is_eol b ≡ false = ap (λ (t : Bool). t || eqb b 257) parts.0 ∙ more in
    let others = dark_codes (c + width c b) bs parts.1 (tail_bytes b bs bytes) in
    ap (list_any is_eol) (codes_first c b bs)
    ∙ ap (λ (t : Bool). t || list_any is_eol (replicate (width c b - 1) tab_column ++ codes_from (c + width c b) bs)) none
    ∙ list_any-append is_eol (replicate (width c b - 1) tab_column) (codes_from (c + width c b) bs)
    ∙ ap (λ (t : Bool). t || list_any is_eol (codes_from (c + width c b) bs)) (dark_columns (width c b - 1)) ∙ others

dark_drop : (n : ℕ) (cs : Rest) → list_any is_eol cs ≡ false → list_any is_eol (drop n cs) ≡ false
dark_drop zero cs dark = dark
dark_drop (suc n) [] dark = refl
dark_drop (suc n) (c ∷ cs) dark = dark_drop n cs (or_parts (is_eol c) (list_any is_eol cs) dark).1

dark_take : (n : ℕ) (cs : Rest) → list_any is_eol cs ≡ false → list_any is_eol (take n cs) ≡ false
dark_take zero cs dark = refl
dark_take (suc n) [] dark = refl
dark_take (suc n) (c ∷ cs) dark =
    let parts = or_parts (is_eol c) (list_any is_eol cs) dark in
    ap (λ (t : Bool). t || list_any is_eol (take n cs)) parts.0 ∙ dark_take n cs parts.1

-- ---- where a rest begins

-- the first codes are those before the others
pub before_take : (k : ℕ) (rest : Rest) → before_rest rest (drop k rest) ≡ take k rest
before_take zero rest = let none : length rest - length rest ≡ 0 = omega arith in ap (λ (j : ℕ). take j rest) none
before_take (suc k) [] = refl
before_take (suc k) (c ∷ cs) =
    let size = length-drop k cs in
    let more : length (c ∷ cs) - length (drop k cs) ≡ suc (length cs - length (drop k cs)) = omega (arith, size) in
    ap (λ (j : ℕ). take j (c ∷ cs)) more ∙ ap (λ (xs : Rest). c ∷ xs) (before_take k cs)

pub rest_owes : (line_end : ℕ) (rest : Rest) → (rest_start line_end rest).owed ≡ prefix_len is_tab_column rest
rest_owes line_end rest =
    let owed = prefix_len is_tab_column rest in
    elim (cases_Bool (eqb owed 0)) [
      | inl h ↦ ap (λ (e : End). e.owed) (cond-true (eqb owed 0) _ _ h) ∙ sym (eqb-true owed 0 h)
      | inr h ↦ ap (λ (e : End). e.owed) (cond-false (eqb owed 0) _ _ h)
    ]

passed_in_tab : (index owed : ℕ) → passed (end_at index (suc owed)) ≡ index + 1
passed_in_tab index owed = ap (λ (t : Bool). index + cond t 0 1) (ne_eqb (suc owed) 0 (λ (e : suc owed ≡ 0). omega (arith, e)))

passed_among : (bs : List ℕ) (first p i owed left : ℕ) → IsAmong bs 1 p i owed left → passed (end_at (first + p) owed) + left ≡ first + length bs
passed_among bs first p i zero left (inl at) = omega (arith, at.sizes)
passed_among bs first p i (suc owed) left (inl at) = absurd (omega (arith, at.owed_none))
passed_among bs first p i zero left (inr at) = absurd (omega (arith, at.owed_some))
passed_among bs first p i (suc owed) left (inr at) =
    let one : passed (end_at (first + p) (suc owed)) ≡ (first + p) + 1 = passed_in_tab (first + p) owed in
    omega (arith, at.sizes, one)

module _ (text before content after : List ℕ) (line_end : ℕ) (line : IsLineOf text before content after) (end : line_end ≡ length before + length content) where
  pub passed_rest : (n : ℕ) → passed (rest_start line_end (drop n (whole content))) + length (bytes_of (drop n (whole content))) ≡ line_end
  passed_rest n =
      let rest = drop n (whole content) in
      let p = past 0 content n in
      let owed = prefix_len is_tab_column rest in
      let at = among 0 content n line.bytes in
      let start : rest_start line_end rest ≡ end_at (length before + p) owed =
      ap (λ (k : ℕ). rest_start k rest) end ∙ start_among (length before) content 1 p (inside 0 content n) owed (length (bytes_of rest)) at in
      ap (λ (x : End). passed x + length (bytes_of rest)) start
      ∙ passed_among content (length before) p (inside 0 content n) owed (length (bytes_of rest)) at ∙ sym end

  -- a token of so many codes of the line
  pub line_token : {A : Type 0} (name : Name) (n k : ℕ) (cs : Rest) (a b : Output A) → cs ≡ take k (drop n (whole content))
      → end_in a ≡ rest_start line_end (drop n (whole content)) → end_in b ≡ rest_start line_end (drop (n + k) (whole content))
      → Writes text a b (void_nodes text name (end_in a) (end_in b)) → WritesPieces text (token name cs) a b
  line_token name n k cs a b is from to writes =
      let rest = drop n (whole content) in
      let front = take k rest in
      let more = drop (n + k) (whole content) in
      let parts : rest ≡ front ++ more = sym (take-append-drop k rest) ∙ ap (λ (xs : Rest). front ++ xs) (drop-drop k n (whole content)) in
      let begins : (end_in a).owed ≡ columns_of front (end_in b).owed =
      ap (λ (e : End). e.owed) from ∙ rest_owes line_end rest ∙ ap (prefix_len is_tab_column) parts ∙ sym (columns_rest front more)
      ∙ ap (columns_of front) (sym (ap (λ (e : End). e.owed) to ∙ rest_owes line_end more)) in
      let bytes : length (bytes_of rest) ≡ length (bytes_of front) + length (bytes_of more) =
      ap (λ (r : Rest). length (bytes_of r)) parts ∙ ap length (filter-append is_byte front more) ∙ length-append (bytes_of front) (bytes_of more) in
      let dark = dark_take k rest (dark_drop n (whole content) (dark_codes 0 content line.dark line.bytes)) in
      let size = line_size front dark in
      let ends : passed (end_in b) ≡ passed (end_in a) + codes_size front =
      omega (arith, ap passed from, ap passed to, passed_rest n, passed_rest (n + k), bytes, size) in
      subst (λ (xs : Rest). WritesPieces text (token name xs) a b) (sym is) (pieces_token text name front a b begins ends writes)

-- ---- endings

pub ending_size : (ending : Option LineEnding) → codes_size (ending_code ending) ≡ length (ending_text ending)
ending_size None = refl
ending_size (Some LineFeed) = refl
ending_size (Some CarriageReturn) = refl
ending_size (Some CarriageReturnLineFeed) = refl

ending_columns : (ending : Option LineEnding) → columns_of (ending_code ending) 0 ≡ 0
ending_columns None = refl
ending_columns (Some LineFeed) = refl
ending_columns (Some CarriageReturn) = refl
ending_columns (Some CarriageReturnLineFeed) = refl

-- the ending of a line, by any name
pub ending_written : {A : Type 0} (text : List ℕ) (name : Name) (ending : Option LineEnding) (from to : ℕ) (a b : Output A)
    → from + length (ending_text ending) ≡ to → end_in a ≡ end_at from 0 → end_in b ≡ end_at to 0
    → Writes text a b (void_nodes text name (end_in a) (end_in b)) → WritesPieces text (token name (ending_code ending)) a b
ending_written text name ending from to a b size at_a at_b writes =
    let begins : (end_in a).owed ≡ columns_of (ending_code ending) (end_in b).owed =
    ap (λ (e : End). e.owed) at_a ∙ sym (ap (λ (e : End). columns_of (ending_code ending) e.owed) at_b ∙ ending_columns ending) in
    let ends : passed (end_in b) ≡ passed (end_in a) + codes_size (ending_code ending) =
    omega (arith, ap passed at_a, ap passed at_b, size, ending_size ending) in
    pieces_token text name (ending_code ending) a b begins ends writes

same_end_left : (text a xs b ys : List ℕ) → text ≡ a ++ xs → text ≡ b ++ ys → length xs ≡ length ys → xs ≡ ys
same_end_left text a xs b ys first second size =
    let sizes : length a ≡ length b =
    omega (arith, ap length first, ap length second, length-append a xs, length-append b ys, size) in
    sym (drop-append_seam a xs) ∙ ap (drop (length a)) (sym first) ∙ ap (λ (k : ℕ). drop k text) sizes ∙ ap (drop (length b)) second ∙ drop-append_seam b ys

-- after the ending of a line, the same is left of the text
pub ending_left : (text : List ℕ) (old new : Standing) → IsInLine text old → (left : List LineRest) → StandsAt text (Between left) new
    → end_at (new.size - length new.left) 0 ≡ end_at (old.size - length old.left) 0 → new.left ≡ old.left
ending_left text old new line left st same =
    let front = line.before ++ (line.content ++ ending_text old.ending) in
    let parts : text ≡ front ++ old.left =
    line.parts.parts ∙ ap (λ (xs : List ℕ). line.before ++ xs) (sym (append_assoc line.content (ending_text old.ending) old.left))
    ∙ sym (append_assoc line.before (line.content ++ ending_text old.ending) old.left) in
    let index = ap (λ (e : End). e.index) same in
    let size : length new.left ≡ length old.left =
    omega (arith, index, st.over.size, line.over.size, ap length parts, length-append front old.left, ap length st.parts, length-append st.before new.left) in
    same_end_left text st.before new.left front old.left st.parts parts size

-- ---- prefixes

-- the prefix of what isn't a quote is white space
pub other_prefix : (c : Container) (rest after : Rest) → is_quote c ≡ false → prefix_pieces c rest after ≡ token SpaceOrTab (before_rest rest after)
other_prefix Quote rest after other = absurd (cc)
other_prefix (Item item) rest after other = refl
other_prefix (Footnote label) rest after other = refl
