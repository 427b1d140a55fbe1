-- What fenced code and math spell (CommonMark 4.5).
use Rattle.std.proofs.Common.{◌≡◌, ◌⊎◌, ℕ, ◌<◌, Bool, true, false, not, cond, ◌&&◌, ◌||◌, leb, is_some, List, [], ◌∷◌, ◌++◌, Option, None, Some, eqb, inl, inr, refl, sym, ap, ap₂, ◌∙◌, get_or, flat_map, map, arith}
use Rattle.parse_raw.proofs.Prelude.{after_child, after_run, and_parts, append, bare, before_child, BlockLine, bytes_of, cases_Bool, child, chunk, code_byte}
use Rattle.parse_raw.proofs.Prelude.{code_parts, cond-false, cond-true, Cons, Constructs, end_part, ends_in, eqb-true, Fence, fence_start, fenced_lines}
use Rattle.parse_raw.proofs.Prelude.{first_word, indent, last_ending_or, LineEnding, list_all, math_info, math_start, Name, Names, Nil, Node, node_name, Nodes}
use Rattle.parse_raw.proofs.Prelude.{one, prefix_len_passes, raw_lines, raw_parts, Rest, run, same_name, string_text}
use Rattle.parse_raw.proofs.Prelude.{fence_marks}
use Rattle.event_tokens.specs.Tokens.{is_among}
use Rattle.std.proofs.lemmas.Bool.{leb-true}
use Rattle.engine_events.specs.declared.event.Name.TheVariants as n
use Rattle.definition_text.specs.Indents.{small_indent}
use Rattle.definition_block.specs.CodeFenced.{fence_by, fence_of}
use Rattle.definition_block.specs.MathFlow.{math_fence_of}
use Rattle.definition_page.specs.Page as page
use Rattle.event_meaning.specs.Blocks.{fenced_of}
use Rattle.parse_output.proofs.Forests.{append-nil}
use Rattle.parse_alike.specs.BlockLines.{has_lines}
use Rattle.parse_references.specs.Sound.{is_asked_on}
use Rattle.parse_raw.specs.FenceParts.{block_name}
use Rattle.parse_raw.proofs.Nodes.{before_append, before_none, child_append}

-- ---- the page's leaf

module _ (names : Names) (text : List ℕ) (top : Bool) (fence : Name) (info : Option (List ℕ)) where
  -- with what is between the fences, or after the first
  abbrev leaf_by : Bool → Nodes → page.PageLeaf
  leaf_by closed between =
      page.FencedCode info closed (fenced_lines (not (top || closed) || (not closed && ends_in n.SpaceOrTab false between)) (raw_parts text between))

  always : (t s : Bool) → (not (t || true) || (not true && s)) ≡ false
  always true s = refl
  always false s = refl

  after_first : (first : Node) (others : Nodes) → same_name (node_name first) fence ≡ true → after_child fence (Cons first others) ≡ others
  after_first first others same = cond-true (same_name (node_name first) fence) _ _ same

  -- a block that is closed
  pub closed_leaf : (first last : Node) (inner : Nodes) → same_name (node_name first) fence ≡ true → same_name (node_name last) fence ≡ true → child fence inner ≡ None
      → fenced_of names text top fence info (Cons first (append inner (one last))) ≡ page.FencedCode info true (fenced_lines false (raw_parts text inner))
  closed_leaf first last inner same same_last none =
      let inside = append inner (one last) in
      let found : is_some (child fence inside) ≡ true =
      ap is_some (child_append fence inner (one last) none ∙ cond-true (same_name (node_name last) fence) (Some last) None same_last) in
      let between : before_child fence inside ≡ inner =
      before_append fence inner (one last) none ∙ ap (append inner) (cond-true (same_name (node_name last) fence) Nil (Cons last Nil) same_last) ∙ append-nil inner in
      ap (λ (ns : Nodes). leaf_by (is_some (child fence ns)) (before_child fence ns)) (after_first first inside same)
      ∙ ap₂ leaf_by found between
      ∙ ap (λ (t : Bool). page.FencedCode info true (fenced_lines t (raw_parts text inner))) (always top (ends_in n.SpaceOrTab false inner))

  -- one that isn't
  pub open_leaf : (first : Node) (inner : Nodes) → same_name (node_name first) fence ≡ true → child fence inner ≡ None
      → fenced_of names text top fence info (Cons first inner) ≡ leaf_by false inner
  open_leaf first inner same none =
      ap (λ (ns : Nodes). leaf_by (is_some (child fence ns)) (before_child fence ns)) (after_first first inner same)
      ∙ ap₂ leaf_by (ap is_some none) (before_none fence inner none)

-- a line is there where the last of lines has an ending
pub has_some : (first : Option LineEnding) (ls : List BlockLine) (ending : LineEnding) → last_ending_or first ls ≡ Some ending
    → has_lines ls ≡ has_lines (raw_lines (flat_map code_parts ls))
has_some first [] ending is = refl
has_some first (line ∷ ls) ending is = some_there line.ending (map code_byte line.codes) ls ending is
  where
    some_there : (own : Option LineEnding) (bytes : List ℕ) (ls : List BlockLine) (ending : LineEnding) → last_ending_or own ls ≡ Some ending
        → true ≡ has_lines (raw_lines ((chunk bytes ++ end_part own) ++ flat_map code_parts ls))
    some_there own (b ∷ bs) ls ending is = refl
    some_there (Some e) [] ls ending is = refl
    some_there None [] [] ending is = absurd (cc)
    some_there None [] (line ∷ ls) ending is = some_there line.ending (map code_byte line.codes) ls ending is

-- ---- the info

string_by : (on : Constructs) (names : Names) (e r : Bool)
    → string_text (record on { character_escape = e; character_reference = r }) names math_info ≡ math_info
string_by on names true true = refl
string_by on names true false = refl
string_by on names false true = refl
string_by on names false false = refl

-- the info of math stands for itself
pub math_string : (on : Constructs) (names : Names) → string_text on names math_info ≡ math_info
math_string on names = string_by on names on.character_escape on.character_reference

-- ---- what is known of a fence

pub record FenceFacts (on : Constructs) (rest : Rest) (fence : Fence) : Type 0 where
  pub byte : ℕ
  pub ascii : byte < 128
  pub first : get_or (bytes_of (bare rest)) 0 0 ≡ byte
  pub indent : fence.indent ≡ indent rest
  pub mark : is_among (fence_marks (eqb byte 36)) byte ≡ true
  pub made : is_asked_on on (block_name (eqb byte 36)) ≡ true
  pub own : fence.byte ≡ byte
  pub some : 0 < fence.run
  pub info : cond (eqb byte 36) (fence.info ≡ math_info) (fence.info ≡ first_word (after_run byte (bytes_of (bare rest))))

first_by : (byte : ℕ) (bytes : List ℕ) → 0 < run byte bytes → get_or bytes 0 0 ≡ byte
first_by byte bytes some = eqb-true (get_or bytes 0 0) byte (prefix_len_passes (λ (b : ℕ). eqb b byte) bytes 0 0 some)

code_by : (on : Constructs) (columns : ℕ) (rest : Rest) (fence : Fence) → on.code_fenced ≡ true → columns ≡ indent rest
    → fence_of columns (bytes_of (bare rest)) ≡ Some fence → FenceFacts on rest fence
code_by on columns rest fence made at is =
    let bytes = bytes_of (bare rest) in
    let backticks = leb 3 (run 96 bytes) && list_all (λ (b : ℕ). not (eqb b 96)) (after_run 96 bytes) in
    elim (cases_Bool backticks) [
      | inl h ↦
          let found : Some (fence_by 96 (run 96 bytes) columns (after_run 96 bytes)) ≡ Some fence = sym (cond-true backticks _ _ h) ∙ is in
          let same : fence ≡ fence_by 96 (run 96 bytes) columns (after_run 96 bytes) = cc in
          let some = leb-true 3 (run 96 bytes) (and_parts (leb 3 (run 96 bytes)) _ h).0 in
          record {
            byte = 96;
            ascii = omega arith;
            first = first_by 96 bytes (omega (arith, some));
            indent = ap (λ (f : Fence). f.indent) same ∙ at;
            mark = refl;
            made = made;
            own = ap (λ (f : Fence). f.byte) same;
            some = omega (arith, some, ap (λ (f : Fence). f.run) same);
            info = ap (λ (f : Fence). f.info) same;
          }
      | inr h ↦
          let other = sym (cond-false backticks _ _ h) ∙ is in
          elim (cases_Bool (leb 3 (run 126 bytes))) [
            | inl k ↦
                let found : Some (fence_by 126 (run 126 bytes) columns (after_run 126 bytes)) ≡ Some fence = sym (cond-true (leb 3 (run 126 bytes)) _ _ k) ∙ other in
                let same : fence ≡ fence_by 126 (run 126 bytes) columns (after_run 126 bytes) = cc in
                let some = leb-true 3 (run 126 bytes) k in
                record {
                  byte = 126;
                  ascii = omega arith;
                  first = first_by 126 bytes (omega (arith, some));
                  indent = ap (λ (f : Fence). f.indent) same ∙ at;
                  mark = refl;
                  made = made;
                  own = ap (λ (f : Fence). f.byte) same;
                  some = omega (arith, some, ap (λ (f : Fence). f.run) same);
                  info = ap (λ (f : Fence). f.info) same;
                }
            | inr k ↦ let none : None ≡ Some fence = sym (cond-false (leb 3 (run 126 bytes)) _ _ k) ∙ other in absurd (cc)
          ]
    ]

math_by : (on : Constructs) (columns : ℕ) (rest : Rest) (fence : Fence) → on.math_flow ≡ true → columns ≡ indent rest
    → math_fence_of columns (bytes_of (bare rest)) ≡ Some fence → FenceFacts on rest fence
math_by on columns rest fence made at is =
    let bytes = bytes_of (bare rest) in
    let dollars = leb 2 (run 36 bytes) && list_all (λ (b : ℕ). not (eqb b 36)) (after_run 36 bytes) in
    let own : Fence = record { byte = 36; run = run 36 bytes; indent = columns; info = math_info } in
    elim (cases_Bool dollars) [
      | inl h ↦
          let found : Some own ≡ Some fence = sym (cond-true dollars _ _ h) ∙ is in
          let same : fence ≡ own = cc in
          let some = leb-true 2 (run 36 bytes) (and_parts (leb 2 (run 36 bytes)) _ h).0 in
          record {
            byte = 36;
            ascii = omega arith;
            first = first_by 36 bytes (omega (arith, some));
            indent = ap (λ (f : Fence). f.indent) same ∙ at;
            mark = refl;
            made = made;
            own = ap (λ (f : Fence). f.byte) same;
            some = omega (arith, some, ap (λ (f : Fence). f.run) same);
            info = ap (λ (f : Fence). f.info) same;
          }
      | inr h ↦ let none : None ≡ Some fence = sym (cond-false dollars _ _ h) ∙ is in absurd (cc)
    ]

pub fence_facts : (on : Constructs) (rest : Rest) (fence : Fence) → (fence_start on rest ≡ Some fence) ⊎ (math_start on rest ≡ Some fence) → FenceFacts on rest fence
fence_facts on rest fence (inl is) =
    let may = on.code_fenced && small_indent on rest in
    elim (cases_Bool may) [
      | inl h ↦ code_by on (indent rest) rest fence (and_parts on.code_fenced (small_indent on rest) h).0 refl (sym (cond-true may _ _ h) ∙ is)
      | inr h ↦ let none : None ≡ Some fence = sym (cond-false may _ _ h) ∙ is in absurd (cc)
    ]
fence_facts on rest fence (inr is) =
    let may = on.math_flow && small_indent on rest in
    elim (cases_Bool may) [
      | inl h ↦ math_by on (indent rest) rest fence (and_parts on.math_flow (small_indent on rest) h).0 refl (sym (cond-true may _ _ h) ∙ is)
      | inr h ↦ let none : None ≡ Some fence = sym (cond-false may _ _ h) ∙ is in absurd (cc)
    ]
