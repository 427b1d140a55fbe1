-- The definitions at the front of a paragraph with another ending in place of each LF.
use Rattle.std.proofs.Common.{◌≡◌, ℕ, suc, zero, ◌+◌, ◌-◌, List, [], ◌∷◌, ◌++◌, None, Some, Option, cond, refl, sym, ap, ◌∙◌, length, drop, take}
use Rattle.laws_endings.proofs.Prelude.{block_with, BlockLine, blocks_with, code_with, codes_with, Constructs, content_of, definition_at, definition_cut}
use Rattle.laws_endings.proofs.Prelude.{definition_with, DefinitionCut, drop-map, ending_code, fold, if_ending_with, is_eol, length-map, line_codes, line_with}
use Rattle.laws_endings.proofs.Prelude.{LineEnding, lines_with, LinkDefinition, map-append, option_map, own_lines, take-map}
use Rattle.markdown_options.specs.declared.line_ending.LineEnding.TheVariants.{CarriageReturnLineFeed, CarriageReturn, LineFeed}
use Rattle.definition_text.specs.BlockLines.{last_ending_or, last_ending}
use Rattle.definition_block.specs.Blocks.{Leaf, Definition, Ending, Blocks, Nil, Cons, join}
use Rattle.definition_block.specs.Definitions.{cut_into, line_count, lines_before, definition_lines, cut_after, cut_most}
use Rattle.laws_endings.proofs.Codes.{cond-under, same_code}
use Rattle.laws_endings.proofs.Definitions.{definition_at-with}

module _ (e : LineEnding) where
  -- ---- lines of a block

  pub last_ending_or-with : (ending : Option LineEnding) (ls : List BlockLine)
      → last_ending_or (if_ending_with e ending) (lines_with e ls) ≡ if_ending_with e (last_ending_or ending ls)
  last_ending_or-with ending [] = refl
  last_ending_or-with ending (line ∷ ls) = last_ending_or-with line.ending ls

  pub last_ending-with : (ls : List BlockLine) → last_ending (lines_with e ls) ≡ if_ending_with e (last_ending ls)
  last_ending-with ls = last_ending_or-with None ls

  pub own_lines-with : (ls : List BlockLine) → own_lines (lines_with e ls) ≡ lines_with e (own_lines ls)
  own_lines-with [] = refl
  own_lines-with (line ∷ []) = refl
  own_lines-with (line ∷ next ∷ ls) = ap (λ others. line_with e line ∷ others) (own_lines-with (next ∷ ls))

  ending_code-with : (ending : Option LineEnding) → ending_code (if_ending_with e ending) ≡ codes_with e (ending_code ending)
  ending_code-with None = refl
  ending_code-with (Some LineFeed) = refl
  ending_code-with (Some CarriageReturn) = refl
  ending_code-with (Some CarriageReturnLineFeed) = refl

  pub line_codes-with : (line : BlockLine) → line_codes (line_with e line) ≡ codes_with e (line_codes line)
  line_codes-with line =
      ap (λ ending. codes_with e line.codes ++ ending) (ending_code-with line.ending)
      ∙ sym (map-append (code_with e) line.codes (ending_code line.ending))

  pub content_of-with : (ls : List BlockLine) → content_of (lines_with e ls) ≡ codes_with e (content_of ls)
  content_of-with [] = refl
  content_of-with (line ∷ ls) =
      ap (λ codes. codes ++ content_of (lines_with e ls)) (line_codes-with line)
      ∙ ap (λ others. codes_with e (line_codes line) ++ others) (content_of-with ls)
      ∙ sym (map-append (code_with e) (line_codes line) (content_of ls))

  -- ---- cuts

  abbrev pub cut_with : DefinitionCut → DefinitionCut
  cut_with parts = cut_into (blocks_with e parts.definitions) (lines_with e parts.left)

  pub join-with : (bs cs : Blocks) → join (blocks_with e bs) (blocks_with e cs) ≡ blocks_with e (join bs cs)
  join-with Nil cs = refl
  join-with (Cons b bs) cs = ap (Cons (block_with e b)) (join-with bs cs)

  abbrev counted : ℕ → ℕ → ℕ
  counted n c = n + cond (is_eol c) 1 0

  count-with : (n : ℕ) (cs : List ℕ) → fold counted n (codes_with e cs) ≡ fold counted n cs
  count-with n [] = refl
  count-with n (c ∷ cs) =
      same_code e (λ x. fold counted (n + cond (is_eol x) 1 0) (codes_with e cs)) c refl refl ∙ count-with (counted n c) cs

  line_count-with : (cs : List ℕ) → line_count (codes_with e cs) ≡ line_count cs
  line_count-with [] = refl
  line_count-with (c ∷ cs) = ap (λ n. 1 + n) (count-with 0 (c ∷ cs))

  lines_before-with : (rest : List ℕ) (ls : List BlockLine) → lines_before (codes_with e rest) (lines_with e ls) ≡ lines_before rest ls
  lines_before-with rest ls =
      ap (λ n. n - line_count (codes_with e rest)) (length-map ls (line_with e)) ∙ ap (λ n. length ls - n) (line_count-with rest)

  defined-with : (d : LinkDefinition) (ls : List BlockLine) → definition_lines (definition_with e d) (lines_with e ls) ≡ blocks_with e (definition_lines d ls)
  defined-with d ls =
      ap (λ own. Cons (Leaf (Definition own (codes_with e d.label) (codes_with e d.destination) (option_map (codes_with e) d.title)))
      (Cons (Ending (last_ending (lines_with e ls))) Nil)) (own_lines-with ls)
      ∙ ap (λ ending. Cons (block_with e (Leaf (Definition (own_lines ls) d.label d.destination d.title))) (Cons (Ending ending) Nil)) (last_ending-with ls)

  cut_after-with : (found : Option LinkDefinition) (ls : List BlockLine) (more : List BlockLine → DefinitionCut)
      → ((others : List BlockLine) → more (lines_with e others) ≡ cut_with (more others))
      → cut_after (option_map (definition_with e) found) (lines_with e ls) more ≡ cut_with (cut_after found ls more)
  cut_after-with None ls more same = refl
  cut_after-with (Some d) ls more same =
      let count = lines_before d.rest ls in
      let all = lines_with e ls in
      let front : ℕ → Blocks = λ n. definition_lines (definition_with e d) (take n all) in
      let with : Blocks → DefinitionCut → DefinitionCut = λ first others. cut_into (join first others.definitions) others.left in
      ap (λ n. with (front n) (more (drop n all))) (lines_before-with d.rest ls)
      ∙ ap (λ others. with (front count) (more others)) (drop-map (line_with e) count ls)
      ∙ ap (with (front count)) (same (drop count ls))
      ∙ ap (λ first. with (definition_lines (definition_with e d) first) (cut_with (more (drop count ls)))) (take-map (line_with e) count ls)
      ∙ ap (λ first. with first (cut_with (more (drop count ls)))) (defined-with d (take count ls))
      ∙ ap (λ definitions. cut_into definitions (lines_with e (more (drop count ls)).left))
      (join-with (definition_lines d (take count ls)) (more (drop count ls)).definitions)

  cut_most-with : (most : ℕ) (ls : List BlockLine) → cut_most most (lines_with e ls) ≡ cut_with (cut_most most ls)
  cut_most-with zero ls = refl
  cut_most-with (suc most) ls =
      ap (λ own. cut_after (definition_at (content_of own)) (lines_with e ls) (cut_most most)) (own_lines-with ls)
      ∙ ap (λ content. cut_after (definition_at content) (lines_with e ls) (cut_most most)) (content_of-with (own_lines ls))
      ∙ ap (λ found. cut_after found (lines_with e ls) (cut_most most)) (definition_at-with e (content_of (own_lines ls)))
      ∙ cut_after-with (definition_at (content_of (own_lines ls))) ls (cut_most most) (cut_most-with most)

  pub cut-with : (on : Constructs) (ls : List BlockLine) → definition_cut on (lines_with e ls) ≡ cut_with (definition_cut on ls)
  cut-with on ls =
      cond-under cut_with on.definition
      (ap (λ n. cut_most n (lines_with e ls)) (length-map ls (line_with e)) ∙ cut_most-with (length ls) ls)
      refl
