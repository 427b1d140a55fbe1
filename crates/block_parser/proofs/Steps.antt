-- The steps of the definition, case by case.
use Rattle.std.proofs.Common.{◌≡◌, ℕ, List, [], ◌∷◌, ◌++◌, Option, None, Some, Bool, if◌then◌else◌, true, false, not, ◌&&◌, ◌||◌, ◌==◌, refl, sym, ap, ◌∙◌}
use Rattle.std.proofs.Common.{subst, arith}
use Rattle.block_parser.proofs.Prelude.{after, AreLines, At, Beside, Blank, block_and_ending, BlockLine, Blocks, Break, close, cond-true, Constructs}
use Rattle.block_parser.proofs.Prelude.{definition_cut, Fence, Fenced, has_text, Heading, heading_blocks, heading_tree, html_start, html_with, Indented}
use Rattle.block_parser.proofs.Prelude.{Inside, is_blank, is_break, is_some_line, IsText, join, join-nil, Leaf, leaf_line, leaf_text, level, Level, LineEnding}
use Rattle.block_parser.proofs.Prelude.{math_start, Nil, no_text, nothing, one, open_text, Opening, OpenTable, option_or, outdent, own_lines, Rest, rest_line}
use Rattle.block_parser.proofs.Prelude.{spaced_line, spine, Spine, spine_after, spine_at, starts_code_indented, table_from_cut, Text, text_here, text_line_of}
use Rattle.block_parser.proofs.Prelude.{tree, Tree, turns, unwrap_or}
use Rattle.std.proofs.lemmas.Bool.{cond-false, or_left, or_from}
use Rattle.definition_block.specs.CodeFenced.{fence_start}
use Rattle.std.specs.Bool.{then_some}
use Rattle.std.specs.Option.{option_map, option_and_then}
use Rattle.block_leaves.specs.Fences.{opening_fence}
use Rattle.definition_block.specs.HeadingAtx.{Atx, heading_atx}
use Rattle.definition_block.specs.HeadingSetext.{underline}
use Rattle.definition_block.specs.Definitions.{cut_into, cut_most}
use Rattle.definition_block.specs.Tree.{is_table_leaf, has_table, makes_table, with_line}
use Rattle.definition_block.specs.Tree.{indented_tree, fence_tree, html_tree, atx_tree, break_tree, underlined, heading_of, anew}
use Rattle.definition_block.specs.Tree.{first_of, leaf_starts}
use Rattle.block_parser.proofs.Closing.{after_added, opening_depth}

-- ---- a line that the open leaf doesn't take

-- the fence of code, or else that of math
either_fence : (f : Fence → Tree) (g : Tree → Tree) (o p : Option Fence) (other : Option Tree)
    → option_or (option_map g (option_map f o)) (option_or (option_map g (option_map f p)) other)
    ≡ option_or (option_map g (option_map f (option_or o p))) other
either_fence f g None p other = refl
either_fence f g (Some fence) p other = refl

module _ (on : Constructs) (away : Opening) (r : Rest) (e : Beside) where
  -- what is found, or a line of text
  abbrev or_text : Option Tree → Tree
  or_text o = unwrap_or o (text_line_of on away r e)

  -- the first that begins, of those from a break, an underline, an ATX heading, an HTML block, a fence or indented code on
  abbrev from_break : Bool → Option Tree
  from_break b = option_or (anew on away (then_some b (break_tree e))) (option_or (makes_table on away r e) None)

  abbrev from_underline : Option Tree → Option Tree
  from_underline o = option_or o (from_break (is_break on r))

  abbrev from_heading : Option Atx → Option Tree
  from_heading o = option_or (anew on away (option_map (atx_tree e) o)) (from_underline (turns on away r e.ending))

  abbrev from_html : Option ℕ → Option Tree
  from_html o = option_or (anew on away (option_map (html_tree r e) o)) (from_heading (heading_atx on r))

  abbrev from_fence : Option Fence → Option Tree
  from_fence o = option_or (anew on away (option_map (fence_tree e) o)) (from_html (html_start on (has_text away) r))

  abbrev from_code : Bool → Option Tree
  from_code b = option_or (anew on away (then_some b (indented_tree r e))) (from_fence (opening_fence on r))

  first_leaf : first_of (leaf_starts on away r e) ≡ from_code (starts_code_indented on r && not (has_text away))
  first_leaf =
      ap (option_or (anew on away (then_some (starts_code_indented on r && not (has_text away)) (indented_tree r e))))
      (either_fence (fence_tree e) (after on away) (fence_start on r) (math_start on r) (from_html (html_start on (has_text away) r)))

  pub blank_leaf : is_blank r ≡ true → leaf_line on away r e ≡ after on away (tree (one (Blank e.ending)) nothing)
  blank_leaf h = cond-true (is_blank r) _ _ h

  module _ (h : is_blank r ≡ false) where
    any_leaf : leaf_line on away r e ≡ or_text (from_code (starts_code_indented on r && not (has_text away)))
    any_leaf = cond-false (is_blank r) _ _ h ∙ ap or_text first_leaf

    pub indented_leaf : (starts_code_indented on r && not (has_text away)) ≡ true
        → leaf_line on away r e ≡ after on away (tree Nil (At (Indented (rest_line (outdent 4 r) e ∷ []) [])))
    indented_leaf k = any_leaf ∙ ap (λ b. or_text (from_code b)) k

    module _ (k : (starts_code_indented on r && not (has_text away)) ≡ false) where
      -- no indented code begins
      other_leaf : leaf_line on away r e ≡ or_text (from_fence (opening_fence on r))
      other_leaf = any_leaf ∙ ap (λ b. or_text (from_code b)) k

      pub fenced_leaf : (f : Fence) → opening_fence on r ≡ Some f → leaf_line on away r e ≡ after on away (tree Nil (At (Fenced f e.ending [])))
      fenced_leaf f fence = other_leaf ∙ ap (λ o. or_text (from_fence o)) fence

      module _ (fence : opening_fence on r ≡ None) where
        -- and no fenced code
        html_leaves : leaf_line on away r e ≡ or_text (from_html (html_start on (has_text away) r))
        html_leaves = other_leaf ∙ ap (λ o. or_text (from_fence o)) fence

        pub html_leaf : (kind : ℕ) → html_start on (has_text away) r ≡ Some kind → leaf_line on away r e ≡ after on away (html_with kind [] r e)
        html_leaf kind html = html_leaves ∙ ap (λ o. or_text (from_html o)) html

        module _ (html : html_start on (has_text away) r ≡ None) where
          -- and no HTML block
          heading_leaves : leaf_line on away r e ≡ or_text (from_heading (heading_atx on r))
          heading_leaves = html_leaves ∙ ap (λ o. or_text (from_html o)) html

          pub heading_leaf : (atx : Atx) → heading_atx on r ≡ Some atx
              → leaf_line on away r e ≡ after on away (tree (block_and_ending (Leaf (Heading atx.rank (spaced_line atx.content None ∷ []))) e.ending) nothing)
          heading_leaf atx heading = heading_leaves ∙ ap (λ o. or_text (from_heading o)) heading

          module _ (heading : heading_atx on r ≡ None) where
            -- and no heading
            last_leaves : leaf_line on away r e ≡ or_text (from_underline (turns on away r e.ending))
            last_leaves = heading_leaves ∙ ap (λ o. or_text (from_heading o)) heading

            pub turned_leaf : (t : Tree) → turns on away r e.ending ≡ Some t → leaf_line on away r e ≡ t
            turned_leaf t turned = last_leaves ∙ ap (λ o. or_text (from_underline o)) turned

            module _ (unturned : turns on away r e.ending ≡ None) where
              break_leaves : leaf_line on away r e ≡ or_text (from_break (is_break on r))
              break_leaves = last_leaves ∙ ap (λ o. or_text (from_underline o)) unturned

              pub break_leaf : is_break on r ≡ true → leaf_line on away r e ≡ after on away (tree (block_and_ending (Leaf Break) e.ending) nothing)
              break_leaf b = break_leaves ∙ ap (λ b. or_text (from_break b)) b

              module _ (unbroken : is_break on r ≡ false) where
                -- and no break
                table_or_text : leaf_line on away r e ≡ or_text (option_or (makes_table on away r e) None)
                table_or_text = break_leaves ∙ ap (λ b. or_text (from_break b)) unbroken

                pub table_leaf : (t : Tree) → makes_table on away r e ≡ Some t → leaf_line on away r e ≡ t
                table_leaf t made = table_or_text ∙ ap (λ o. or_text (option_or o None)) made

                pub text_leaf : makes_table on away r e ≡ None → leaf_line on away r e ≡ text_line_of on away r e
                text_leaf unmade = table_or_text ∙ ap (λ o. or_text (option_or o None)) unmade

-- ---- an underline

-- nothing is cut from nothing
pub none_cut : (b : Bool) → (if b then cut_most 0 [] else cut_into Nil []).left ≡ []
none_cut true = refl
none_cut false = refl

module _ (on : Constructs) (r : Rest) (e : Option LineEnding) where
  not_headed : (rank : ℕ) (definitions : Blocks) (left : List BlockLine) → is_some_line left ≡ false → heading_of rank definitions left e ≡ None
  not_headed rank definitions [] none = refl
  not_headed rank definitions (l ∷ ls) none = let wrong : true ≡ false = none in cc

  is_headed : (rank : ℕ) (definitions : Blocks) (left : List BlockLine) → is_some_line left ≡ true
      → heading_of rank definitions left e ≡ Some (tree (join definitions (block_and_ending (Leaf (Heading rank (own_lines left))) e)) nothing)
  is_headed rank definitions [] some = let wrong : false ≡ true = some in cc
  is_headed rank definitions (l ∷ ls) some = refl

  none_here : (o : Option ℕ) → option_and_then (underlined on [] e) o ≡ None
  none_here None = refl
  none_here (Some rank) = not_headed rank (definition_cut on []).definitions (definition_cut on []).left (ap is_some_line (none_cut on.definition))

  pub turns_nothing : (away : Opening) → text_here away ≡ [] → turns on away r e ≡ None
  turns_nothing away none = ap (λ ls. option_and_then (underlined on ls e) (underline on r)) none ∙ none_here (underline on r)

  pub turns_not : (away : Opening) → underline on r ≡ None → turns on away r e ≡ None
  turns_not away is = ap (λ o. option_and_then (underlined on (text_here away) e) o) is

  -- the definitions take the whole of it, or a heading of what is left
  pub turns_none : (ls : List BlockLine) (rank : ℕ) → underline on r ≡ Some rank → is_some_line (definition_cut on ls).left ≡ false
      → turns on (At (Text ls)) r e ≡ None
  turns_none ls rank is none =
      ap (λ o. option_and_then (underlined on ls e) o) is ∙ not_headed rank (definition_cut on ls).definitions (definition_cut on ls).left none

  pub turns_some : (ls : List BlockLine) (rank : ℕ) → underline on r ≡ Some rank → is_some_line (definition_cut on ls).left ≡ true
      → turns on (At (Text ls)) r e ≡ heading_tree on (Some rank) (At (Text ls)) e
  turns_some ls rank is some =
      ap (λ o. option_and_then (underlined on ls e) o) is ∙ is_headed rank (definition_cut on ls).definitions (definition_cut on ls).left some

-- whether a paragraph is open where all containers are
pub here_or_not : (depth count : ℕ) (away : Opening) → (opening_depth away ≡ 0 → (depth == count) ≡ true) → ((depth == count) && has_text away) ≡ false
    → text_here away ≡ []
here_or_not depth count (At leaf) last h = no_text (leaf_text leaf) (sym (ap (λ b. b && has_text (At leaf)) (last refl)) ∙ h)
here_or_not depth count (Inside c kids inner) last h = refl

pub text_leaf_here : (P : Opening → Type 0) (away : Opening) → opening_depth away ≡ 0 → has_text away ≡ true
    → ((l : BlockLine) (ls : List BlockLine) → P (At (Text (l ∷ ls)))) → P away
text_leaf_here P (At (Text [])) none some k = let wrong : false ≡ true = some in cc
text_leaf_here P (At (Text (l ∷ ls))) none some k = k l ls
text_leaf_here P (At leaf) none some k = let wrong : false ≡ true = some in cc
text_leaf_here P (Inside c kids inner) none some k = absurd (omega (arith, none))

-- ---- a line of text

pub text_at : (around : List Level) (kids : Blocks) (away : Opening) → leaf_text (spine_at around kids away).leaf ≡ open_text away
text_at around kids (At leaf) = refl
text_at around kids (Inside c inner_kids inner) = text_at (level c kids ∷ around) inner_kids inner

pub has_text_at : (around : List Level) (kids : Blocks) (away : Opening) → is_some_line (leaf_text (spine_at around kids away).leaf) ≡ has_text away
has_text_at around kids away = ap is_some_line (text_at around kids away)

-- it goes on the paragraph that is open, in whatever containers
module _ (P Q : Spine → Type 0) (l : BlockLine) (more : (around : List Level) (kids : Blocks) (ls : List BlockLine) → P (spine around kids (Text ls))
    → Q (spine around kids (Text (ls ++ l ∷ [])))) where
  longer_at : (around : List Level) (kids : Blocks) (away : Opening) → has_text away ≡ true → P (spine_at around kids away)
      → Q (spine_at around kids (with_line l away))
  longer_at around kids (At (Text ls)) some h = more around kids ls h
  longer_at around kids (At leaf) some h = let wrong : false ≡ true = some in cc
  longer_at around kids (Inside c inner_kids inner) some h = longer_at (level c kids ∷ around) inner_kids inner some h

pub goes_longer : (on : Constructs) (P Q : Spine → Type 0) (r : Rest) (e : Beside)
    → ((around : List Level) (kids : Blocks) (ls : List BlockLine) → P (spine around kids (Text ls)) → Q (spine around kids (Text (ls ++ rest_line r e ∷ []))))
    → (around : List Level) (kids : Blocks) (away : Opening) → has_text away ≡ true → P (spine_at around kids away)
    → Q (spine_after around kids (text_line_of on away r e))
goes_longer on P Q r e more around kids away some h =
    subst (λ (t : Tree). Q (spine_after around kids t)) (sym (cond-true (has_text away || has_table away) _ _ (or_left (has_text away) (has_table away) some)))
    (subst (λ (bs : Blocks). Q (spine_at around bs (with_line (rest_line r e) away))) (sym (join-nil kids))
    (longer_at P Q (rest_line r e) more around kids away some h))

-- or it is the first of one
pub starts_text : (on : Constructs) (Q : Spine → Type 0) (r : Rest) (e : Beside) (around : List Level) (kids : Blocks) (away : Opening) → has_text away ≡ false
    → has_table away ≡ false
    → Q (spine around (join kids (close on away)) (Text (rest_line r e ∷ []))) → Q (spine_after around kids (text_line_of on away r e))
starts_text on Q r e around kids away none no_table h =
    let t = tree Nil (At (Text (rest_line r e ∷ []))) in
    subst (λ (more : Tree). Q (spine_after around kids more))
    (sym (cond-false (has_text away || has_table away) _ _ (or_from (has_text away) (has_table away) none no_table)))
    (after_added on Q around kids away t (subst (λ (bs : Blocks). Q (spine around bs (Text (rest_line r e ∷ []))))
    (sym (join-nil (join kids (close on away)))) h))

-- whether a table is open where all containers are
pub table_at : (around : List Level) (kids : Blocks) (away : Opening) → opening_depth away ≡ 0 → is_table_leaf (spine_at around kids away).leaf ≡ has_table away
table_at around kids (At leaf) none = refl
table_at around kids (Inside c inner_kids inner) none = absurd (omega (arith, none))

pub no_table_at : (away : Opening) → (opening_depth away ≡ 0 → ⊥) → has_table away ≡ false
no_table_at (At leaf) deeper = absurd (deeper refl)
no_table_at (Inside c kids inner) deeper = refl

-- or a row of a table
pub goes_row : (on : Constructs) (P Q : Spine → Type 0) (r : Rest) (e : Beside)
    → ((around : List Level) (kids : Blocks) (ls : List BlockLine) → P (spine around kids (OpenTable ls))
    → Q (spine_after around kids (tree Nil (At (OpenTable (ls ++ rest_line r e ∷ []))))))
    → (around : List Level) (kids : Blocks) (away : Opening) → has_table away ≡ true → P (spine_at around kids away)
    → Q (spine_after around kids (text_line_of on away r e))
goes_row on P Q r e more around kids (At (OpenTable ls)) some h = more around kids ls h
goes_row on P Q r e more around kids away some h = let wrong : false ≡ true = some in cc

-- a paragraph becomes a table
pub tabled_here : (on : Constructs) (P Q : Spine → Type 0) (row : BlockLine)
    → ((around : List Level) (kids : Blocks) (ls : List BlockLine) → AreLines ls → P (spine around kids (Text ls))
    → Q (spine_after around kids (table_from_cut (definition_cut on ls) row)))
    → (around : List Level) (kids : Blocks) (away : Opening) → IsText away → AreLines (open_text away) → P (spine_at around kids away)
    → Q (spine_after around kids (table_from_cut (definition_cut on (text_here away)) row))
tabled_here on P Q row reads around kids (At (Text ls)) is clean h = reads around kids ls clean h
tabled_here on P Q row reads around kids away is clean h = let wrong : false ≡ true = is in cc

-- a paragraph becomes a heading
pub turned_here : (on : Constructs) (P Q : Spine → Type 0) (rank : ℕ) (e : Option LineEnding)
    → ((around : List Level) (kids : Blocks) (ls : List BlockLine) → AreLines ls → P (spine around kids (Text ls))
    → Q (spine around (join kids (heading_blocks on rank ls e)) (Text [])))
    → (around : List Level) (kids : Blocks) (away : Opening) → IsText away → AreLines (open_text away) → P (spine_at around kids away)
    → Q (spine_after around kids (tree (heading_blocks on rank (text_here away) e) nothing))
turned_here on P Q rank e reads around kids (At (Text ls)) is clean h = reads around kids ls clean h
turned_here on P Q rank e reads around kids away is clean h = let wrong : false ≡ true = is in cc
