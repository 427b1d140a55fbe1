-- The nodes of the ending of a line.
use Rattle.std.proofs.Common.{◌≡◌, ℕ, ◌+◌, ◌-◌, Bool, true, false, ◌&&◌, List, [], ◌++◌, Option, None, Some, ◌∷◌, eq-eqb, refl, sym, ap, ap₂, subst, ◌∙◌, append_assoc, drop, take, length, length-append, arith}
use Rattle.parse_raw.proofs.Prelude.{AreEnding, AreRaw, Around, between, cond-true, end_at, end_part, ending_text, EndPart, ends_in, enter_at, exit_at}
use Rattle.parse_raw.proofs.Prelude.{IsInLine, LineEnding, Name, nat_tests, Nil, Node, node_name, Nodes, one, raw_part, raw_parts, same_end, same_name}
use Rattle.parse_raw.proofs.Prelude.{Standing, text_of, void_nodes, ◌==◌}
use Rattle.std.proofs.Math.Seq.{drop-append_seam, take-append_seam}
use Rattle.markdown_options.specs.LineEndings.{ending_bytes}
use Rattle.markdown_options.specs.declared.line_ending.LineEnding.TheVariants.{CarriageReturnLineFeed, CarriageReturn, LineFeed}
use Rattle.engine_events.specs.declared.event.Name.TheVariants as n
use Rattle.event_grammar.specs.declared.slot.Between.TheVariants.{Lines}
use Rattle.event_grammar.specs.declared.slot.Form.TheVariants.{Plain}
use Rattle.event_grammar.specs.declared.slot.Slot.{Slot}
use Rattle.event_grammar.specs.Grammar.{row}
use Rattle.event_grammar.specs.Slots.{may_end, take_child, stands_between}
use Rattle.event_meaning.specs.Raw.{ending_of}
use Rattle.parse_slots.specs.Left.{Fill}
use Rattle.parse_slots.proofs.Steps.{fill_between, fill_none, filled_void}
use Rattle.parse_raw.proofs.Nodes.{raw_none, raw_one, void_cases}

-- where the ending of a line begins and ends in the text
ending_between : (text before content after : List ℕ) (ending : List ℕ) → text ≡ before ++ (content ++ (ending ++ after))
    → between (length before + length content) (length before + length content + length ending) text ≡ ending
ending_between text before content after ending is =
    let split : text ≡ (before ++ content) ++ (ending ++ after) = is ∙ sym (append_assoc before content (ending ++ after)) in
    let size : (length before + length content + length ending) - (length before + length content) ≡ length ending = omega arith in
    let dropped : drop (length before + length content) text ≡ ending ++ after =
    ap (λ (k : ℕ). drop k text) (sym (length-append before content)) ∙ ap (drop (length (before ++ content))) split
    ∙ drop-append_seam (before ++ content) (ending ++ after) in
    ap₂ (λ (k : ℕ) (xs : List ℕ). take k xs) size dropped ∙ take-append_seam ending after

ending_is : (ending : LineEnding) → ending_of (ending_bytes ending) ≡ ending
ending_is CarriageReturnLineFeed = refl
ending_is CarriageReturn = refl
ending_is LineFeed = refl

some_bytes : (ending : LineEnding) → (length (ending_bytes ending) == 0) ≡ false
some_bytes CarriageReturnLineFeed = refl
some_bytes CarriageReturn = refl
some_bytes LineFeed = refl

same_true : (a b : ℕ) → a ≡ b → (a == b) ≡ true
same_true a b is = eq-eqb a b is

not_same : (from to size : ℕ) → (size == 0) ≡ false → to ≡ from + size → ((to == from) && (0 == 0)) ≡ true → ⊥
not_same from to size some is same = grind (arith, nat_tests)

-- a node by its name and bytes
end_node : (text : List ℕ) (node : Node) (ending : LineEnding) → node_name node ≡ n.LineEnding → text_of text node ≡ ending_bytes ending
    → raw_parts text (one node) ≡ EndPart ending ∷ []
end_node text node ending named bytes =
    ap (λ (name : Name). raw_part text name node ++ []) named
    ∙ ap (λ (bs : List ℕ). EndPart (ending_of bs) ∷ []) bytes
    ∙ ap (λ (e : LineEnding). EndPart e ∷ []) (ending_is ending)

module _ (text : List ℕ) (name : Name) where
  ending_by : (before content after : List ℕ) (ending : Option LineEnding) (from to : ℕ) → same_name name n.Data ≡ false
      → text ≡ before ++ (content ++ (ending_text ending ++ after)) → from ≡ length before + length content → to ≡ from + length (ending_text ending)
      → AreEnding text name ending (void_nodes text name (end_at from 0) (end_at to 0))
  ending_by before content after None from to other is from_is to_is =
      let same : to ≡ from = omega arith in
      cond-true (same_end (end_at to 0) (end_at from 0)) _ _ (ap₂ (λ (a b : Bool). a && b) (same_true to from same) refl)
  ending_by before content after (Some ending) from to other is from_is to_is =
      let node = Around (enter_at text name (end_at from 0)) Nil (exit_at text name (end_at to 0)) in
      let bytes : between from to text ≡ ending_bytes ending =
      ap₂ (λ (a b : ℕ). between a b text) from_is (to_is ∙ ap (λ (k : ℕ). k + length (ending_bytes ending)) from_is)
      ∙ ending_between text before content after (ending_bytes ending) is in
      void_cases (AreEnding text name (Some ending)) text name (end_at from 0) (end_at to 0) other
      (λ h. absurd (not_same from to (length (ending_bytes ending)) (some_bytes ending) to_is h))
      (λ h. (node, refl, refl, refl, bytes))

-- the nodes of the ending of the line on which a walk stands
pub ending_nodes : (text : List ℕ) (name : Name) (s : Standing) → same_name name n.Data ≡ false → IsInLine text s
    → AreEnding text name s.ending (void_nodes text name (end_at s.line_end 0) (end_at (s.size - length s.left) 0))
ending_nodes text name s other line =
    let sizes : length text ≡ length line.before + (length line.content + (length (ending_text s.ending) + length s.left)) =
    ap length line.parts.parts ∙ length-append line.before _ ∙ ap (λ (n : ℕ). length line.before + n) (
    length-append line.content _ ∙ ap (λ (n : ℕ). length line.content + n) (length-append (ending_text s.ending) s.left)
    ) in
    let size = line.over.size in
    let end = line.end in
    ending_by text name line.before line.content s.left s.ending s.line_end (s.size - length s.left) other line.parts.parts end (omega arith)

-- they are the ending among the parts of a raw block
pub ending_parts : (text : List ℕ) (ending : Option LineEnding) (ns : Nodes) → AreEnding text n.LineEnding ending ns → raw_parts text ns ≡ end_part ending
ending_parts text None ns are = ap (raw_parts text) are
ending_parts text (Some ending) ns are =
    ap (raw_parts text) are.1 ∙ end_node text are.0 ending are.2 are.4

-- no definition and no fence
pub ending_raw : (text : List ℕ) (ending : Option LineEnding) (ns : Nodes) → AreEnding text n.LineEnding ending ns → AreRaw ns
ending_raw text None ns are = subst AreRaw (sym are) raw_none
ending_raw text (Some ending) ns are =
    subst AreRaw (sym are.1) (
    raw_one are.0 n.LineEnding are.2 are.3 (record { no_data = refl; no_definition = refl; no_code = refl; no_math = refl; unasked = refl })
    )

-- and no white space
pub ending_last : (text : List ℕ) (before : Bool) (ending : LineEnding) (ns : Nodes) → AreEnding text n.LineEnding (Some ending) ns
    → ends_in n.SpaceOrTab before ns ≡ false
ending_last text before ending ns are = ap (ends_in n.SpaceOrTab before) are.1 ∙ ap (λ (x : Name). same_name x n.SpaceOrTab) are.2

-- a row stays as it is, if the ending may stand between its children
pub ending_fills : (text : List ℕ) (name : Name) (slots : List Slot) (ending : Option LineEnding) (ns : Nodes) → take_child slots name ≡ None
    → stands_between Lines name ≡ true → may_end (row name Plain) ≡ true → AreEnding text name ending ns → Fill Lines slots ns slots
ending_fills text name slots None ns takes between void are = subst (λ (ms : Nodes). Fill Lines slots ms slots) (sym are) (fill_none Lines slots)
ending_fills text name slots (Some ending) ns takes between void are =
    subst (λ (ms : Nodes). Fill Lines slots ms slots) (sym are.1)
    (fill_between Lines slots name are.0 are.2 takes between (filled_void Lines Plain name are.0 are.2 are.3 void))
