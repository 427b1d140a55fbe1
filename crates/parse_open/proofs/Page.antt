-- The page that all nodes of a text spell.
use Rattle.std.proofs.Common.{◌≡◌, ◌⊎◌, inl, inr, ℕ, true, List, [], ◌++◌, sym, ap, ◌∙◌, subst, map}
use Rattle.parse_open.proofs.Prelude.{AreBlocksAlike, AreDefinitionsAlike, bare_blocks, blocks_of, Definition, definition_of, document_targets, group_items}
use Rattle.parse_open.proofs.Prelude.{growth, IsFront, IsSpelledPage, Meaning, named, Node, Nodes, opened, ParseOptions, reading, Spells, TextTables}
use Rattle.parse_open.proofs.Prelude.{without_ending}
use Rattle.definition_block.specs.Tree as tree
use Rattle.definition_page.specs.Page as page
use Rattle.definition_page.specs.Read.{page_of}
use Rattle.engine_events.specs.declared.event.Name.TheVariants as n
use Rattle.event_meaning.specs.Blocks as spelled
use Rattle.event_meaning.specs.Spelled as events
use Rattle.parse_alike.specs.Page.{AreAlikeAfterFront}
use Rattle.parse_open.proofs.BareRead.{bare_blocks_read}
use Rattle.parse_open.specs.NodeLaws.{PagesAreSpelled}
use Rattle.parse_open.proofs.Nodes.{blocks_both, named_both}

module _ (tables : TextTables) (options : ParseOptions) (text : List ℕ) (bs : tree.Blocks) where
  -- no blocks are alike to none
  none_alike : (m m' : Meaning) (found : page.Blocks) → AreBlocksAlike m m' page.Nil found → AreBlocksAlike m m' page.Nil (without_ending found)
  none_alike m m' page.Nil alike = tt
  none_alike m m' (page.Cons b found) alike = absurd alike

  read_none : bs ≡ tree.Nil → (page_of tables options bs).blocks ≡ page.Nil
  read_none none = ap (λ (xs : tree.Blocks). (page_of tables options xs).blocks) none

  -- what is in front, and then the blocks
  front_blocks : (m m' : Meaning) (front : Nodes) (read found : page.Blocks) → IsFront options.constructs tables.names text front bs → (bs ≡ tree.Nil → read ≡ page.Nil)
      → AreBlocksAlike m m' read found
      → AreBlocksAlike m m' read (spelled.join (blocks_of tables.names text true front) found)
      ⊎ AreAlikeAfterFront m m' read (spelled.join (blocks_of tables.names text true front) found)
  front_blocks m m' front read found is empty alike =
      elim is.blocks [
        | inl none ↦ inl (subst (λ (xs : page.Blocks). AreBlocksAlike m m' read (spelled.join xs found)) (sym none) alike)
        | inr (inl (ending, some)) ↦
            inr (subst (λ (xs : page.Blocks). AreAlikeAfterFront m m' read (spelled.join xs found)) (sym some) alike)
        | inr (inr (some, none)) ↦
            let nothing = empty none in
            inr (subst (λ (xs : page.Blocks). AreAlikeAfterFront m m' read (spelled.join xs found)) (sym some)
            (subst (λ (xs : page.Blocks). AreBlocksAlike m m' xs (without_ending found)) (sym nothing)
            (none_alike m m' found (subst (λ (xs : page.Blocks). AreBlocksAlike m m' xs found) nothing alike))))
      ]

  page_spelled : (front ns : Nodes) (line : ℕ) → IsFront options.constructs tables.names text front bs
      → Spells (reading tables options (document_targets bs)) text front (opened (group_items (bare_blocks bs)) [] []) (growth ns []) line
      → IsSpelledPage tables options text bs (events.page_of tables.names text ns)
  page_spelled front ns line is spells =
      let r = reading tables options (document_targets bs) in
      let own = spells.kids in
      let all : blocks_of tables.names text true ns ≡ spelled.join (blocks_of tables.names text true front) (blocks_of tables.names text true own.left) =
      ap (blocks_of tables.names text true) own.parts ∙ blocks_both tables.names text true front own.left in
      let defined : named n.Definition ns ≡ named n.Definition own.left =
      ap (named n.Definition) own.parts ∙ named_both n.Definition front own.left
      ∙ ap (λ (xs : List Node). xs ++ named n.Definition own.left) is.none in
      record {
        blocks = λ m m' means.
            subst (λ (xs : page.Blocks).
            AreBlocksAlike m m' (page_of tables options bs).blocks xs ⊎ AreAlikeAfterFront m m' (page_of tables options bs).blocks xs)
            (sym all)
            (front_blocks m m' front (page_of tables options bs).blocks (blocks_of tables.names text true own.left) is read_none
            (subst (λ (xs : page.Blocks). AreBlocksAlike m m' xs (blocks_of tables.names text true own.left)) (bare_blocks_read.read r bs)
            (own.spell.blocks m m' means)));
        defined = λ m m' means.
            subst (λ (xs : List Node). AreDefinitionsAlike m m' (page_of tables options bs).definitions (map (definition_of tables.names text) xs))
            (sym defined)
            (subst (λ (ds : List Definition). AreDefinitionsAlike m m' ds (map (definition_of tables.names text) (named n.Definition own.left)))
            (bare_blocks_read.defined bs) (own.spell.defined m m' means));
      }

pub pages_are_spelled : PagesAreSpelled
pages_are_spelled = λ tables options text bs front ns line is spells. page_spelled tables options text bs front ns line is spells
