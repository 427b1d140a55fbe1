-- What is written ends with the ending of a blank line where the blocks do, after each row.
use Rattle.std.proofs.Common.{◌≡◌, inl, inr, ℕ, eqb, Bool, true, false, List, [], ◌∷◌, drop, Option, None, Some, refl, sym, ap, ◌∙◌, subst}
use Rattle.std.specs.Prelude.{is_some}
use Rattle.parse_events.proofs.Prelude.{after_return, append, append-assoc, AreEnding, AreEndsAlike, AreMute, AtEnding, begun, Between, Blank, blank_one}
use Rattle.parse_events.proofs.Prelude.{Block, block_names, Blocks, Constructs, Container, Ending, ends_in_blank, in_first_line, is_listed, join, Kind, Level}
use Rattle.parse_events.proofs.Prelude.{LineEnding, LineRest, lines, Name, Nil, Node, node_name, Nodes, one, one_block, Place, same_name, text_line, TextLine}
use Rattle.parse_events.proofs.Prelude.{true≢false, unread, whole, Within}
use Rattle.std.proofs.lemmas.Bool.{cond_both}
use Rattle.markdown_options.specs.declared.line_ending.LineEnding.TheVariants.{CarriageReturnLineFeed, CarriageReturn, LineFeed}
use Rattle.definition_page.specs.Read.{ends_blank, is_blank_ending}
use Rattle.engine_events.specs.declared.event.Name.TheVariants as n
use Rattle.parse_lines.proofs.Columns.{codes_first}
use Rattle.parse_output.proofs.Forests.{append-nil}
use Rattle.parse_open.proofs.Ends.{block_other, ends_blank_one, ends_mute, ends_one, none_or_other}
use Rattle.parse_events.specs.LastBlank.{HasMore}

-- ---- a line without an ending isn't empty

abbrev some_codes : List ℕ → Bool
some_codes [] = false
some_codes (c ∷ cs) = true

abbrev some_line : List TextLine → Bool
some_line [] = false
some_line (line ∷ ls) = true

-- it holds something, or has an ending
abbrev IsThere : TextLine → Type 0
IsThere line = line.content ≡ [] → line.ending ≡ None → ⊥

abbrev IsFirstThere : List TextLine → Type 0
IsFirstThere [] = Unit {0}
IsFirstThere (line ∷ ls) = IsThere line

ended_there : (content : List ℕ) (e : LineEnding) (ls : List TextLine) → IsFirstThere (text_line content (Some e) ∷ ls)
ended_there content e ls = λ empty none. true≢false (ap is_some none)

filled_there : (b : ℕ) (ls : List TextLine) → IsFirstThere (in_first_line b ls)
filled_there b [] = λ empty none. true≢false (ap some_codes empty)
filled_there b (line ∷ ls) = λ empty none. true≢false (ap some_codes empty)

return_there : (bs : List ℕ) (ls : List TextLine) → IsFirstThere (after_return bs ls)
return_there [] ls = ended_there [] CarriageReturn ls
return_there (b ∷ bs) ls =
    cond_both (eqb b 10) _ _ IsFirstThere (λ _. ended_there [] CarriageReturnLineFeed (drop 1 ls)) (λ _. ended_there [] CarriageReturn ls)

lines_there : (bs : List ℕ) → IsFirstThere (lines bs)
lines_there [] = tt
lines_there (b ∷ bs) =
    cond_both (eqb b 10) _ _ IsFirstThere (λ _. ended_there [] LineFeed (lines bs))
    (λ _. cond_both (eqb b 13) _ _ IsFirstThere (λ _. return_there bs (lines bs)) (λ _. filled_there b (lines bs)))

whole_some : (bs : List ℕ) → whole bs ≡ [] → bs ≡ []
whole_some [] none = refl
whole_some (b ∷ bs) none = absurd (true≢false (ap some_codes (sym (codes_first 0 b bs) ∙ none)))

abbrev first_or : LineRest → List LineRest → LineRest
first_or other [] = other
first_or other (next ∷ ls) = next

abbrev some_rest : List LineRest → Bool
some_rest [] = false
some_rest (next ∷ ls) = true

first_more : (next : LineRest) (others : List LineRest) (kind : Kind) (ls : List TextLine) → IsFirstThere ls → next ∷ others ≡ unread kind ls → HasMore next
first_more next others kind [] there is = absurd (true≢false (ap some_rest is))
first_more next others kind (line ∷ ls) there is =
    let same = ap (first_or next) is in
    λ empty none.
    there (whole_some line.content (ap (λ (l : LineRest). l.rest) (sym same) ∙ empty)) (ap (λ (l : LineRest). l.beside.ending) (sym same) ∙ none)

-- of the lines of a text
pub next_more : (next : LineRest) (others : List LineRest) (kind : Kind) (bytes : List ℕ) → next ∷ others ≡ unread kind (lines bytes) → HasMore next
next_more next others kind bytes is = first_more next others kind (lines bytes) (lines_there bytes) is

-- ---- what is written

pub other_ends : (p : Place) (bs : Blocks) (ns : Nodes) → ends_in_blank ns ≡ false → ends_blank false bs ≡ false → AreEndsAlike p bs ns
other_ends (Between left) bs ns nodes blocks = nodes ∙ sym blocks
other_ends (Within here left) bs ns nodes blocks = inl nodes
other_ends (AtEnding ending left) bs ns nodes blocks = (nodes, blocks)

abbrev some_level : List Level → Bool
some_level [] = false
some_level (l ∷ levels) = true

-- in a container there is nothing to say
pub inside_ends : (p : Place) (bs : Blocks) (ns : Nodes) (l : Level) (levels : List Level) → l ∷ levels ≡ [] → AreEndsAlike p bs ns
inside_ends p bs ns l levels none = absurd (true≢false (ap some_level none))

-- a line is begun
pub begun_ends : (on : Constructs) (within : List Container) (next : LineRest) (others : List LineRest) (bs : Blocks) (ns ms : Nodes) → within ≡ []
    → HasMore next → AreMute ms → ends_in_blank ns ≡ ends_blank false bs → AreEndsAlike (begun on within (Between (next ∷ others))) bs (append ns ms)
begun_ends on within next others bs ns ms none more are same =
    subst (λ (cs : List Container). AreEndsAlike (begun on cs (Between (next ∷ others))) bs (append ns ms)) (sym none) (
    elim (none_or_other ns ms are) [
      | inl nothing ↦ inr (more, ap (λ (xs : Nodes). ends_in_blank (append ns xs)) nothing ∙ ap ends_in_blank (append-nil ns) ∙ same)
      | inr other ↦ inl other
    ])

-- a blank line
pub blank_ends : (text : List ℕ) (ending : Option LineEnding) (here : LineRest) (left : List LineRest) (bs : Blocks) (ns before nodes : Nodes) → AreMute before
    → AreEnding text n.BlankLineEnding ending nodes → here.beside.ending ≡ ending → (before ≡ Nil → here.rest ≡ []) → AreEndsAlike (Within here left) bs ns
    → ends_in_blank (append ns (append before nodes)) ≡ ends_blank false (join bs (one_block (Blank ending)))
blank_ends text (Some e) here left bs ns before nodes are is ending space was =
    ap (λ (xs : Nodes). ends_in_blank (append ns (append before xs))) is.1 ∙ ap ends_in_blank (sym (append-assoc ns before (one is.0)))
    ∙ ends_blank_one (append ns before) is.0 is.2 ∙ sym (blank_one false bs (Blank (Some e)))
blank_ends text None here left bs ns before nodes are is ending space was =
    let all : append ns (append before nodes) ≡ append ns before =
    ap (λ (xs : Nodes). append ns (append before xs)) is ∙ ap (append ns) (append-nil before) in
    ap ends_in_blank all
    ∙ elim (none_or_other ns before are) [
      | inl nothing ↦
          ap (λ (xs : Nodes). ends_in_blank (append ns xs)) nothing ∙ ap ends_in_blank (append-nil ns)
          ∙ elim was [
            | inl other ↦ other
            | inr (more, same) ↦ absurd (more (space nothing) ending)
          ]
      | inr other ↦ other
    ]
    ∙ sym (blank_one false bs (Blank None))

-- the ending of a line
pub ending_ends : (text : List ℕ) (ending : Option LineEnding) (bs : Blocks) (ns nodes : Nodes) → AreEnding text n.LineEnding ending nodes
    → ends_in_blank ns ≡ false → ends_in_blank (append ns nodes) ≡ ends_blank false (join bs (one_block (Ending ending)))
ending_ends text (Some e) bs ns nodes is other =
    ap (λ (xs : Nodes). ends_in_blank (append ns xs)) is.1 ∙ ends_one ns is.0 (ap (λ (a : Name). same_name a n.BlankLineEnding) is.2)
    ∙ sym (blank_one false bs (Ending (Some e)))
ending_ends text None bs ns nodes is other =
    ap (λ (xs : Nodes). ends_in_blank (append ns xs)) is ∙ ap ends_in_blank (append-nil ns) ∙ other ∙ sym (blank_one false bs (Ending None))

-- a leaf
pub leaf_ends : (bs : Blocks) (b : Block) (ns before behind : Nodes) (node : Node) → is_blank_ending b ≡ false → is_listed block_names (node_name node) ≡ true
    → AreMute behind
    → (ends_in_blank (append ns (append before (append (one node) behind))) ≡ false) × (ends_blank false (join bs (one_block b)) ≡ false)
leaf_ends bs b ns before behind node is listed are =
    let all : append ns (append before (append (one node) behind)) ≡ append (append (append ns before) (one node)) behind =
    sym (append-assoc ns before (append (one node) behind)) ∙ sym (append-assoc (append ns before) (one node) behind) in (
      ap ends_in_blank all
          ∙ ends_mute (append (append ns before) (one node)) behind are (ends_one (append ns before) node (block_other (node_name node) listed)),
      blank_one false bs b ∙ is,
    )
