-- Definitions that are cut from the front of the open paragraph.
use Rattle.std.proofs.Common.{◌≡◌, ◌∷◌, [], ◌≤◌, ℕ, zero, suc, if◌then◌else◌, Bool, true, false, List, Option, None, Some, refl, sym, ap, ◌∙◌, subst, take}
use Rattle.std.proofs.Common.{drop, length, arith}
use Rattle.block_leaves.proofs.Prelude.{AreLines, AreRead, block_rows, BlockLine, Blocks, cond-true, Constructs, Container, content_of, content_text, cut_into}
use Rattle.block_leaves.proofs.Prelude.{cut_most, Definition, definition_at, definition_cut, DefinitionCut, is_some_line, join, join-assoc, join-nil, Leaf}
use Rattle.block_leaves.proofs.Prelude.{Leaves, length-map, Level, Nil, own_lines, Piece, piece_line, piece_lines, row_value, Single, spine, Text}
use Rattle.std.proofs.lemmas.Bool.{cond_both}
use Rattle.block_rows.specs.declared.row.Row.TheVariants as row
use Rattle.std.specs.Option.{option_map}
use Rattle.definition_text.specs.Columns.{code_byte}
use Rattle.definition_inline.specs.Definition.{Definition as LinkDefinition, definition}
use Rattle.definition_block.specs.Definitions.{cut_after, definition_lines, lines_before}
use Rattle.block_rows.specs.Rows.{definition_on, definition_value}
use Rattle.block_rows.proofs.DefinitionLines.{definition_cuts}
use Rattle.definition_inline.proofs.LinkRenaming.{renamed_definition, definition_renamed, code_byte-renames}
use Rattle.block_definitions.specs.declared.front.DefinitionEnd.{DefinitionEnd}
use Rattle.block_definitions.specs.Ends.{EndsAt}
use Rattle.block_definitions.proofs.Contents.{content_is}
use Rattle.block_definitions.proofs.Cuts.{cut_all, cut_none, cut_one}

-- ---- whether any are cut

pub cut_on : (on : Constructs) (ls : List BlockLine) → on.definition ≡ true → definition_cut on ls ≡ cut_all ls
cut_on on ls h = cond-true on.definition _ _ h

either : (b : Bool) (x y : DefinitionCut) → x ≡ y → (if b then x else y) ≡ y
either true x y h = h
either false x y h = refl

pub cut_not : (on : Constructs) (ls : List BlockLine) → definition_at (content_of (own_lines ls)) ≡ None → definition_cut on ls ≡ cut_into Nil ls
cut_not on ls none = either on.definition (cut_all ls) (cut_into Nil ls) (cut_none ls none)

-- whether lines are left after them
pub more_left : (on : Constructs) (ls : List BlockLine) (pieces : List Piece) → on.definition ≡ true → ls ≡ piece_lines pieces
    → is_some_line (cut_most (length pieces) (piece_lines pieces)).left ≡ is_some_line (definition_cut on ls).left
more_left on ls pieces is same =
    ap (λ n. is_some_line (cut_most n (piece_lines pieces)).left) (sym (length-map pieces piece_line))
    ∙ ap (λ xs. is_some_line (cut_all xs).left) (sym same)
    ∙ ap (λ (x : DefinitionCut). is_some_line x.left) (sym (cut_on on ls is))

-- ---- one after another

-- so many were cut, and these lines are left, whose content stands at a place of that of all
pub record Cutting {A : Type 0} (now : Leaves A) (content : List ℕ) (containers : List Container) (around : List Level) (kids : Blocks) (ls : List BlockLine) : Type 0 where
  pub definitions : Blocks
  pub left : List BlockLine
  pub reads : AreRead now containers (spine around (join kids definitions) (Text left))
  pub clean : AreLines left
  pub rest : content ≡ content_text left
  pub same : cut_all ls ≡ cut_into (join definitions (cut_all left).definitions) (cut_all left).left

pub none_yet : {A : Type 0} (p : Leaves A) (content : List ℕ) (containers : List Container) (around : List Level) (kids : Blocks) (ls : List BlockLine)
    → AreRead p containers (spine around kids (Text ls)) → AreLines ls → content ≡ content_text ls → Cutting p content containers around kids ls
none_yet p content containers around kids ls h clean is = record {
  definitions = Nil;
  left = ls;
  reads = subst (λ (bs : Blocks). AreRead p containers (spine around bs (Text ls))) (sym (join-nil kids)) h;
  clean = clean;
  rest = is;
  same = refl;
}

-- where a definition ends, by equations
pub ends_as : (content content2 : List ℕ) (ls ls2 : List BlockLine) (end : DefinitionEnd) → content ≡ content2 → ls2 ≡ ls → EndsAt content ls end
    → EndsAt content2 ls2 end
ends_as content content2 ls ls2 end c l h =
    subst (λ (x : List ℕ). EndsAt x ls2 end) c (subst (λ (x : List BlockLine). EndsAt content x end) (sym l) h)

-- the first of a paragraph's lines
first_lines : (n : ℕ) (ls : List BlockLine) → AreLines ls → 1 ≤ n → AreLines (take n ls)
first_lines zero ls h some = absurd (omega (arith, some))
first_lines (suc n) [] h some = tt
first_lines (suc zero) (line ∷ []) h some = h
first_lines (suc (suc n)) (line ∷ []) h some = h
first_lines (suc zero) (line ∷ next ∷ others) h some = (h.0, h.1)
first_lines (suc (suc n)) (line ∷ next ∷ others) h some = (h.0, h.1, h.2, first_lines (suc n) (next ∷ others) h.3 (omega arith))

-- the row of a definition
pub row_of_definition : (content : List ℕ) (ls : List BlockLine) (end : DefinitionEnd) → AreLines ls → (h : EndsAt content ls end)
    → block_rows (Leaf (Definition (own_lines (take end.lines ls)) h.read.label h.read.destination h.read.title)) ≡ row_value (row.Definition end.lines) ls ∷ []
row_of_definition content ls end clean h =
    let count = lines_before h.read.rest ls in
    let cuts = definition_cuts ls h.read clean h.found in
    let own = take count ls in
    let own_clean = first_lines count ls clean cuts.some in
    let read : definition_on own ≡ Some (renamed_definition code_byte (definition h.read.label h.read.destination h.read.title [])) =
    ap definition_at (content_is own own_clean) ∙ definition_renamed code_byte code_byte-renames (content_of (own_lines own))
    ∙ ap (option_map (renamed_definition code_byte)) cuts.again in
    ap (λ n. block_rows (Leaf (Definition (own_lines (take n ls)) h.read.label h.read.destination h.read.title))) h.count
    ∙ ap (λ o. Single (definition_value (own_lines own) o) ∷ []) (sym read)
    ∙ ap (λ n. row_value (row.Definition n) ls ∷ []) (sym h.count)

pub one_more : {A : Type 0} (p q : Leaves A) (content : List ℕ) (containers : List Container) (around : List Level) (kids : Blocks) (ls : List BlockLine)
    (k : Cutting p content containers around kids ls) (end : DefinitionEnd)
    (h : EndsAt content k.left end) → AreRead q containers (spine around (join (join kids k.definitions) (definition_lines h.read (take end.lines k.left)))
    (Text (drop end.lines k.left)))
    → Cutting q (drop end.bytes content) containers around kids ls
one_more p q content containers around kids ls k end h reads =
    let more = definition_lines h.read (take end.lines k.left) in
    let others = cut_all (drop end.lines k.left) in
    record {
      definitions = join k.definitions more;
      left = drop end.lines k.left;
      reads = subst (λ (bs : Blocks). AreRead q containers (spine around bs (Text (drop end.lines k.left)))) (join-assoc kids k.definitions more) reads;
      clean = h.clean;
      rest = h.left;
      same =
          k.same ∙ ap (λ (x : DefinitionCut). cut_into (join k.definitions x.definitions) x.left) (cut_one content k.left end h)
          ∙ ap (λ (bs : Blocks). cut_into bs others.left) (sym (join-assoc k.definitions more others.definitions));
    }

-- no more
pub all_cut : {A : Type 0} (on : Constructs) (p : Leaves A) (content : List ℕ) (containers : List Container) (around : List Level) (kids : Blocks) (ls : List BlockLine)
    (k : Cutting p content containers around kids ls)
    → on.definition ≡ true → definition_at (content_of (own_lines k.left)) ≡ None
    → AreRead p containers (spine around (join kids (definition_cut on ls).definitions) (Text (definition_cut on ls).left))
all_cut on p content containers around kids ls k is none =
    subst (λ (x : DefinitionCut). AreRead p containers (spine around (join kids x.definitions) (Text x.left)))
    (ap (λ (bs : Blocks). cut_into bs k.left) (sym (join-nil k.definitions))
    ∙ ap (λ (x : DefinitionCut). cut_into (join k.definitions x.definitions) x.left) (sym (cut_none k.left none)) ∙ sym k.same ∙ sym (cut_on on ls is))
    k.reads

-- ---- what is left has the lines of a paragraph

left_clean : (more : List BlockLine → DefinitionCut) (ls : List BlockLine) (o : Option LinkDefinition) → AreLines ls
    → ((d : LinkDefinition) → definition_at (content_of (own_lines ls)) ≡ Some d → AreLines (more (drop (lines_before d.rest ls) ls)).left)
    → definition_at (content_of (own_lines ls)) ≡ o → AreLines (cut_after o ls more).left
left_clean more ls None h m e = h
left_clean more ls (Some d) h m e = m d e

most_clean : (most : ℕ) (ls : List BlockLine) → AreLines ls → AreLines (cut_most most ls).left
most_clean zero ls h = h
most_clean (suc most) ls h =
    left_clean (cut_most most) ls (definition_at (content_of (own_lines ls))) h
    (λ d e. most_clean most (drop (lines_before d.rest ls) ls) (definition_cuts ls d h e).left) refl

pub cut_clean : (on : Constructs) (ls : List BlockLine) → AreLines ls → AreLines (definition_cut on ls).left
cut_clean on ls h =
    cond_both on.definition (cut_most (length ls) ls) (cut_into Nil ls) (λ parts. AreLines parts.left) (λ _. most_clean (length ls) ls h) (λ _. h)
