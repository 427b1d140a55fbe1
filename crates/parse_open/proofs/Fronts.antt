-- What is in front of the blocks of a document: a byte order mark, white space, frontmatter.
use Rattle.std.proofs.Common.{◌≡◌, inl, inr, ℕ, Bool, true, false, List, [], ◌∷◌, ◌++◌, refl, ap, ap₂, ◌∙◌}
use Rattle.parse_open.proofs.Prelude.{append, AreMute, Around, block_of, blocks_from, blocks_of, cut, ending_bytes, ending_of, ends_in, if◌then◌else◌}
use Rattle.parse_open.proofs.Prelude.{IsEndingNode, IsFront, LineEnding, Name, named, Names, Nil, Node, node_name, Nodes, one, same_name, start_of, text_of}
use Rattle.markdown_options.specs.declared.configuration.Constructs.{Constructs}
use Rattle.markdown_options.specs.declared.line_ending.LineEnding.TheVariants.{CarriageReturnLineFeed, CarriageReturn, LineFeed}
use Rattle.engine_events.specs.declared.event.Name.TheVariants as n
use Rattle.definition_block.specs.Tree as tree
use Rattle.definition_page.specs.Page as page
use Rattle.event_meaning.specs.Blocks as spelled
use Rattle.parse_output.specs.declared.end.End.{End}
use Rattle.parse_output.specs.Ends.{enter_at, exit_at, same_end}
use Rattle.parse_output.specs.Forest.{void_nodes}
use Rattle.event_grammar.specs.declared.slot.Between.TheVariants.{Lines}
use Rattle.event_grammar.specs.declared.slot.Form.TheVariants.{Plain}
use Rattle.parse_slots.specs.Left.{IsFilled}
use Rattle.parse_references.specs.Sound.{AreSound}
use Rattle.parse_references.proofs.Sound.{sound_both, sound_filled_on, sound_one, void_sound}
use Rattle.parse_open.specs.Fronts.{SpellsNothing}
use Rattle.parse_open.proofs.Ends.{ends_after, ends_one, mute_ends}
use Rattle.parse_open.proofs.Nodes.{blocks_both, mute_blocks, mute_named, named_both}
use Rattle.parse_open.proofs.Sound.{ending_sound, mute_sound}

module _ (on : Constructs) (names : Names) (text : List ℕ) where
  pub nothing_none : SpellsNothing on names text Nil
  nothing_none = record { blocks = refl; none = refl; other = refl; sound = tt }

  pub nothing_mute : (ns : Nodes) → AreMute ns → SpellsNothing on names text ns
  nothing_mute ns are =
      record { blocks = mute_blocks names text true ns are; none = mute_named ns are; other = mute_ends ns are; sound = mute_sound on names text ns are }

  pub nothing_both : (ns ms : Nodes) → SpellsNothing on names text ns → SpellsNothing on names text ms → SpellsNothing on names text (append ns ms)
  nothing_both ns ms p q =
      record {
        blocks = blocks_both names text true ns ms ∙ ap₂ spelled.join p.blocks q.blocks;
        none = named_both n.Definition ns ms ∙ ap₂ (λ (xs ys : List Node). xs ++ ys) p.none q.none;
        other = ends_after n.BlankLineEnding false ns ms ∙ ap (λ (b : Bool). ends_in n.BlankLineEnding b ms) p.other ∙ q.other;
        sound = sound_both on names text ns ms p.sound q.sound;
      }

  mark_if : (b : Bool) (from to : End)
      → AreSound on names text (if b then Nil else cut (Around (enter_at text n.ByteOrderMark from) Nil (exit_at text n.ByteOrderMark to)))
      → SpellsNothing on names text (if b then Nil else cut (Around (enter_at text n.ByteOrderMark from) Nil (exit_at text n.ByteOrderMark to)))
  mark_if true from to sound = nothing_none
  mark_if false from to sound = record { blocks = refl; none = refl; other = refl; sound = sound }

  -- a byte order mark, if there is one
  pub nothing_mark : (from to : End) → SpellsNothing on names text (void_nodes text n.ByteOrderMark from to)
  nothing_mark from to = mark_if (same_end to from) from to (void_sound on names text n.ByteOrderMark from to refl)

  pub front_none : (bs : tree.Blocks) (front : Nodes) → SpellsNothing on names text front → IsFront on names text front bs
  front_none bs front is = record { blocks = inl is.blocks; none = is.none; other = is.other; sound = is.sound }

  -- ---- frontmatter

  front_blocks : (node : Node) → node_name node ≡ n.Frontmatter → blocks_of names text true (one node) ≡ page.Cons (page.Leaf page.Definition) page.Nil
  front_blocks (Around enter kids exit) is =
      let t = text_of text (Around enter kids exit) in
      ap (λ (a : Name). spelled.join (block_of names text true a t kids (blocks_from names text (start_of a) kids)) page.Nil) is

  front_sound : on.frontmatter ≡ true → (node : Node) → node_name node ≡ n.Frontmatter → IsFilled Lines Plain node → AreSound on names text (one node)
  front_sound is_on node is filled =
      sound_one on names text node (sound_filled_on on names text 2 Lines Plain n.Frontmatter node is refl is_on refl filled)

  not_blank : (name : Name) (node : Node) → node_name node ≡ name → same_name name n.BlankLineEnding ≡ false
      → same_name (node_name node) n.BlankLineEnding ≡ false
  not_blank name node is other = ap (λ (a : Name). same_name a n.BlankLineEnding) is ∙ other

  -- whose last line has no ending
  pub front_alone : on.frontmatter ≡ true → (bs : tree.Blocks) (before : Nodes) (node : Node) → SpellsNothing on names text before → node_name node ≡ n.Frontmatter
      → named n.Definition (one node) ≡ [] → IsFilled Lines Plain node → bs ≡ tree.Nil → IsFront on names text (append before (one node)) bs
  front_alone is_on bs before node nothing is none filled empty =
      record {
        blocks = inr (inr (blocks_both names text true before (one node) ∙ ap₂ spelled.join nothing.blocks (front_blocks node is), empty));
        none = named_both n.Definition before (one node) ∙ ap₂ (λ (xs ys : List Node). xs ++ ys) nothing.none none;
        other = ends_one before node (not_blank n.Frontmatter node is refl);
        sound = sound_both on names text before (one node) nothing.sound (front_sound is_on node is filled);
      }

  ending_same : (e : LineEnding) → ending_of (ending_bytes e) ≡ e
  ending_same CarriageReturnLineFeed = refl
  ending_same CarriageReturn = refl
  ending_same LineFeed = refl

  ending_blocks : (e : LineEnding) (node : Node) → IsEndingNode text n.LineEnding e node
      → blocks_of names text true (one node) ≡ page.Cons (page.Ending e) page.Nil
  ending_blocks e (Around enter kids exit) is =
      let node = Around enter kids exit in
      ap (λ (a : Name). spelled.join (block_of names text true a (text_of text node) kids (blocks_from names text (start_of a) kids)) page.Nil) is.named
      ∙ ap (λ (bs : List ℕ). page.Cons (page.Ending (ending_of bs)) page.Nil) is.bytes
      ∙ ap (λ (x : LineEnding). page.Cons (page.Ending x) page.Nil) (ending_same e)

  ending_named : (e : LineEnding) (node : Node) → IsEndingNode text n.LineEnding e node → named n.Definition (one node) ≡ []
  ending_named e (Around enter kids exit) is =
      ap (λ (b : Bool). (if b then Around enter kids exit ∷ named n.Definition kids else named n.Definition kids) ++ [])
      (ap (λ (a : Name). same_name a n.Definition) is.named)
      ∙ ap (λ (ks : Nodes). named n.Definition ks ++ []) is.empty

  -- and with it
  pub front_ended : on.frontmatter ≡ true → (bs : tree.Blocks) (before : Nodes) (node : Node) (e : LineEnding) (ending : Node) → SpellsNothing on names text before
      → node_name node ≡ n.Frontmatter → named n.Definition (one node) ≡ [] → IsFilled Lines Plain node → IsEndingNode text n.LineEnding e ending
      → IsFront on names text (append before (append (one node) (one ending))) bs
  front_ended is_on bs before node e ending nothing is none filled ends =
      let both = append (one node) (one ending) in
      record {
        blocks = inr (inl (
          e,
          blocks_both names text true before both ∙ ap₂ spelled.join nothing.blocks
              (blocks_both names text true (one node) (one ending) ∙ ap₂ spelled.join (front_blocks node is) (ending_blocks e ending ends)),
        ));
        none =
            named_both n.Definition before both
            ∙ ap₂ (λ (xs ys : List Node). xs ++ ys) nothing.none
            (named_both n.Definition (one node) (one ending) ∙ ap₂ (λ (xs ys : List Node). xs ++ ys) none (ending_named e ending ends));
        other =
            ends_after n.BlankLineEnding false before both
            ∙ not_blank n.LineEnding ending ends.named refl;
        sound =
            sound_both on names text before both nothing.sound
            (sound_both on names text (one node) (one ending) (front_sound is_on node is filled) (ending_sound on names text n.LineEnding e ending refl ends));
      }
