-- What nodes of a text spell, one after another (CommonMark 6).
use Rattle.std.proofs.Common.{◌≡◌, ℕ, Bool, ◌||◌, List, refl, sym, ap, ◌∙◌, inl, inr, ◌⊎◌}
use Rattle.parse_leaves.proofs.Prelude.{append, append_inlines, AreQuiet, Around, Cons, Inlines, inlines_of, IsQuiet, Name, Names, Nil, Node, node_name, Nodes}
use Rattle.parse_leaves.proofs.Prelude.{NoInlines, same_name, text_within}
use Rattle.engine_events.specs.declared.event.Name.TheVariants as n
use Rattle.definition_inline.specs.Inline.{Cons as ConsInline}
use Rattle.event_meaning.specs.Children.{text_of}
use Rattle.event_meaning.specs.Texts.{text_part}

append_assoc : (is js ks : Inlines) → append_inlines (append_inlines is js) ks ≡ append_inlines is (append_inlines js ks)
append_assoc NoInlines js ks = refl
append_assoc (ConsInline i is) js ks = ap (ConsInline i) (append_assoc is js ks)

module _ (names : Names) (text : List ℕ) (linked : Bool) where
  -- what a node spells
  abbrev part_of : Node → Inlines
  part_of (Around enter kids exit) =
      text_part names text linked enter.name (text_of text (Around enter kids exit)) kids (text_within names text (linked || same_name enter.name n.Link) kids)

  -- nodes spell what they spell one after another
  pub inlines_append : (ns ms : Nodes)
      → inlines_of names text linked (append ns ms) ≡ append_inlines (inlines_of names text linked ns) (inlines_of names text linked ms)
  inlines_append Nil ms = refl
  inlines_append (Cons (Around enter kids exit) ns) ms =
      let part = part_of (Around enter kids exit) in
      ap (append_inlines part) (inlines_append ns ms)
      ∙ sym (append_assoc part (inlines_of names text linked ns) (inlines_of names text linked ms))

  part_none : (name : Name) (bytes : List ℕ) (kids : Nodes) (inner : Inlines) → (name ≡ n.SpaceOrTab) ⊎ (name ≡ n.BlockQuotePrefix)
      → text_part names text linked name bytes kids inner ≡ NoInlines
  part_none name bytes kids inner (inl is) = ap (λ m. text_part names text linked m bytes kids inner) is
  part_none name bytes kids inner (inr is) = ap (λ m. text_part names text linked m bytes kids inner) is

  -- white space and prefixes of quotes spell nothing
  pub quiet_none : (ns : Nodes) → AreQuiet ns → inlines_of names text linked ns ≡ NoInlines
  quiet_none Nil quiet = refl
  quiet_none (Cons (Around enter kids exit) ns) quiet =
      ap (λ part. append_inlines part (inlines_of names text linked ns))
      (part_none enter.name (text_of text (Around enter kids exit)) kids (text_within names text (linked || same_name enter.name n.Link) kids)
      (quiet_name (Around enter kids exit) quiet.0))
      ∙ quiet_none ns quiet.1
    where
      quiet_name : (node : Node) → IsQuiet node → (node_name node ≡ n.SpaceOrTab) ⊎ (node_name node ≡ n.BlockQuotePrefix)
      quiet_name node (inl is) = inl is.0
      quiet_name node (inr is) = inr is.0

  pub after_quiet : (ns ms : Nodes) → AreQuiet ns → inlines_of names text linked (append ns ms) ≡ inlines_of names text linked ms
  after_quiet ns ms quiet =
      inlines_append ns ms ∙ ap (λ front. append_inlines front (inlines_of names text linked ms)) (quiet_none ns quiet)
