-- Whether blocks and nodes end with the ending of a blank line, after one more.
use Rattle.std.proofs.Common.{◌≡◌, ◌⊎◌, inl, inr, ℕ, Bool, true, false, List, [], ◌∷◌, refl, sym, ap, ◌∙◌, subst}
use Rattle.parse_open.proofs.Prelude.{append, AreMute, AreOpen, Around, Block, block_names, Blocks, Cons, ConsBlock, ends_blank, ends_in, ends_in_blank, Event}
use Rattle.parse_open.proofs.Prelude.{exited, growth, Holder, is_blank_ending, is_listed, join, level, Level, Name, Nil, NoBlock, Node, node_name, Nodes, one}
use Rattle.parse_open.proofs.Prelude.{one_block, Opened, Part, Reading, same_name, Spells, the_type, true≢false}
use Rattle.std.proofs.lemmas.Bool.{cases_Bool}
use denote.Enum.Bare.{same_true}
use Rattle.engine_events.specs.declared.event.Name.TheVariants as n
use Rattle.event_grammar.specs.Trees.{Growth}
use Rattle.parse_open.proofs.Steps.{named_other, named_whole}

-- ---- blocks

pub blank_one : (before : Bool) (bs : Blocks) (b : Block) → ends_blank before (join bs (one_block b)) ≡ is_blank_ending b
blank_one before NoBlock b = refl
blank_one before (ConsBlock c bs) b = blank_one (is_blank_ending c) bs b

-- ---- nodes

pub ends_after : (name : Name) (before : Bool) (ns ms : Nodes) → ends_in name before (append ns ms) ≡ ends_in name (ends_in name before ns) ms
ends_after name before Nil ms = refl
ends_after name before (Cons node ns) ms = ends_after name (same_name (node_name node) name) ns ms

pub ends_one : (ns : Nodes) (node : Node) → same_name (node_name node) n.BlankLineEnding ≡ false → ends_in_blank (append ns (one node)) ≡ false
ends_one ns node other = ends_after n.BlankLineEnding false ns (one node) ∙ other

pub ends_blank_one : (ns : Nodes) (node : Node) → node_name node ≡ n.BlankLineEnding → ends_in_blank (append ns (one node)) ≡ true
ends_blank_one ns node is = ends_after n.BlankLineEnding false ns (one node) ∙ ap (λ (a : Name). same_name a n.BlankLineEnding) is

mute_other : (node : Node) (ns : Nodes) → AreMute (Cons node ns) → same_name (node_name node) n.BlankLineEnding ≡ false
mute_other node ns (inl is, none, more, filled) = ap (λ (a : Name). same_name a n.BlankLineEnding) is
mute_other node ns (inr is, none, more, filled) = ap (λ (a : Name). same_name a n.BlankLineEnding) is

pub mute_ends : (ms : Nodes) → AreMute ms → ends_in_blank ms ≡ false
mute_ends Nil are = refl
mute_ends (Cons node ms) are =
    ap (λ (b : Bool). ends_in n.BlankLineEnding b ms) (mute_other node ms are) ∙ mute_ends ms are.2

pub ends_mute : (ns ms : Nodes) → AreMute ms → ends_in_blank ns ≡ false → ends_in_blank (append ns ms) ≡ false
ends_mute ns ms are other =
    ends_after n.BlankLineEnding false ns ms ∙ ap (λ (b : Bool). ends_in n.BlankLineEnding b ms) other ∙ mute_ends ms are

-- nodes that spell nothing among blocks are none, or the last of them is no ending
pub none_or_other : (ns ms : Nodes) → AreMute ms → (ms ≡ Nil) ⊎ (ends_in_blank (append ns ms) ≡ false)
none_or_other ns Nil are = inl refl
none_or_other ns (Cons node ms) are = inr (ends_after n.BlankLineEnding false ns (Cons node ms) ∙ mute_ends (Cons node ms) are)

pub block_other : (name : Name) → is_listed block_names name ≡ true → same_name name n.BlankLineEnding ≡ false
block_other name listed =
    elim (cases_Bool (same_name name n.BlankLineEnding)) [
      | inl same ↦ absurd (true≢false (sym listed ∙ ap (is_listed block_names) (same_true the_type tt name n.BlankLineEnding same)))
      | inr other ↦ other
    ]

-- ---- the end of a container or a list

module _ (r : Reading) (text : List ℕ) (front : Nodes) where
  exited_ends : (h : Holder) (before : Blocks) (levels : List Level) (kids : Nodes) (parts : List Part) (exit : Event)
      → AreOpen r text front (level h before ∷ levels) parts → ends_in_blank (exited (growth kids parts) exit).kids ≡ false
  exited_ends h before levels kids [] exit there = absurd there
  exited_ends h before levels kids (part ∷ parts) exit there =
      ap (λ (ns : Nodes). ends_in_blank (append part.before ns)) (named_whole r text front h part.enter exit kids there.0)
      ∙ ends_one part.before (Around part.enter kids exit)
      (named_other r text front h part.enter.name n.BlankLineEnding there.0 refl refl refl refl refl)

  pub exited_other : (o : Opened) (g : Growth) (h : Holder) (before : Blocks) (levels : List Level) (line : ℕ) (exit : Event)
      → o.outer ≡ level h before ∷ levels
      → Spells r text front o g line → ends_in_blank (exited g exit).kids ≡ false
  exited_other o g h before levels line exit is spells =
      exited_ends h before levels g.kids g.outer exit (subst (λ (ls : List Level). AreOpen r text front ls g.outer) is spells.around)
