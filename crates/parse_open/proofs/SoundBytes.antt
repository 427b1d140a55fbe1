-- Nodes are sound if they are with their data cut into bytes.
use Rattle.std.proofs.Common.{◌≡◌, ◌+◌, ◌-◌, ℕ, zero, suc, Bool, true, false, ◌&&◌, if◌then◌else◌, List, [], ◌∷◌, Option, None, refl, sym, ap, ◌∙◌, subst}
use Rattle.std.proofs.lemmas.Bool.{and_parts, true≢false}
use denote.Enum.Bare.{same_true}
use Rattle.parse_open.proofs.Prelude.{append, Around, Event, is_listed, Name, Names, Nil, Nodes, one, same_name, the_type}
use Rattle.markdown_options.specs.declared.configuration.Constructs.{Constructs}
use Rattle.engine_events.specs.declared.event.Name.TheVariants as n
use Rattle.event_grammar.specs.Points.{edge, spot_of}
use Rattle.event_grammar.specs.Trees.{Cons, tree}
use Rattle.parse_output.specs.Children.{HaveChildren, may_enter, may_hold}
use Rattle.parse_output.specs.Forest.{byte_nodes, bytes_from, bytewise, is_nil, node_bytewise}
use Rattle.parse_output.specs.Open.{Entered, Mark}
use Rattle.parse_references.specs.Leads.{AreWithout}
use Rattle.parse_references.specs.Sound.{AreSound, BeginTag, Decode, HoldsAsked, IsRank, IsSound, outside_strings}
use Rattle.parse_references.proofs.Sound.{asks_nothing, sound_both, sound_parts}
use Rattle.parse_open.specs.NodeLaws.{DocumentsAreSound}
use Rattle.parse_open.proofs.FilledBytes.{all_held, AreHeld, tree_is}

-- whether a node is cut, where these are in it after they are
abbrev is_cut : Name → Nodes → Bool
is_cut name inner = same_name name n.Data && is_nil inner

cut_named : (name : Name) (inner : Nodes) → is_cut name inner ≡ true → name ≡ n.Data
cut_named name inner is = same_true the_type tt name n.Data (and_parts (same_name name n.Data) (is_nil inner) is).0

cut_empty : (name : Name) (inner : Nodes) → is_cut name inner ≡ true → is_nil inner ≡ true
cut_empty name inner is = (and_parts (same_name name n.Data) (is_nil inner) is).1

-- ---- without names

module _ (off : List Name) where
  without_parts : (ns ms : Nodes) → AreWithout off (append ns ms) → AreWithout off ns × AreWithout off ms
  without_parts Nil ms both = (tt, both)
  without_parts (Cons node ns) ms both = let parts = without_parts ns ms both.1 in ((both.0, parts.0), parts.1)

  nil_without : (ns : Nodes) → is_nil ns ≡ true → AreWithout off ns
  nil_without Nil is = tt
  nil_without (Cons node ns) is = absurd (true≢false (sym is))

  without_cut : (b : Bool) (enter exit : Event) (inner : Nodes) → (b ≡ true → (is_listed off enter.name ≡ false) × AreWithout off inner)
      → AreWithout off (if b then bytes_from enter exit else one (Around enter inner exit)) → (is_listed off enter.name ≡ false) × AreWithout off inner
  without_cut true enter exit inner is h = is refl
  without_cut false enter exit inner is h = h.0

  without_whole : (ns : Nodes) → is_listed off n.Data ≡ false → AreWithout off (bytewise ns) → AreWithout off ns
  without_whole Nil other h = tt
  without_whole (Cons (Around enter kids exit) ns) other h =
      let inner = bytewise kids in
      let parts = without_parts (node_bytewise (Around enter kids exit)) (bytewise ns) h in
      let own =
      without_cut (is_cut enter.name inner) enter exit inner
      (λ is. (ap (is_listed off) (cut_named enter.name inner is) ∙ other, nil_without inner (cut_empty enter.name inner is))) parts.0 in
      ((own.0, without_whole kids other own.1), without_whole ns other parts.1)

module _ (names : Names) (text : List ℕ) where
  -- ---- headings

  rank_bytes : (index count : ℕ) (others : Nodes) → IsRank names text (append (byte_nodes index count) others) → IsRank names text others
  rank_bytes index zero others h = h
  rank_bytes index (suc count) others h = rank_bytes (index + 1) count others (h.1 refl)

  rank_cut : (b : Bool) (enter exit : Event) (kids inner ns others : Nodes) → (b ≡ true → enter.name ≡ n.Data)
      → (IsRank names text others → IsRank names text ns)
      → IsRank names text (append (if b then bytes_from enter exit else one (Around enter inner exit)) others)
      → IsRank names text (Cons (Around enter kids exit) ns)
  rank_cut true enter exit kids inner ns others is later h =
      let from = edge (spot_of enter) in
      let other : same_name enter.name n.HeadingAtxSequence ≡ false = ap (λ (a : Name). same_name a n.HeadingAtxSequence) (is refl) in
      (λ same. absurd (true≢false (sym same ∙ other)), λ apart. later (rank_bytes from (edge (spot_of exit) - from) others h))
  rank_cut false enter exit kids inner ns others is later h = (h.0, λ apart. later (h.1 apart))

  rank_whole : (ns : Nodes) → IsRank names text (bytewise ns) → IsRank names text ns
  rank_whole Nil h = tt
  rank_whole (Cons (Around enter kids exit) ns) h =
      let inner = bytewise kids in
      rank_cut (is_cut enter.name inner) enter exit kids inner ns (bytewise ns) (cut_named enter.name inner) (rank_whole ns) h

  -- ---- references hold no data

  decode_cut : (b : Bool) (sibling : Option Name) (enter exit : Event) (kids inner ns others : Nodes) → (b ≡ true → ⊥)
      → ((s : Option Name) → Decode names text s others → Decode names text s ns)
      → Decode names text sibling (append (if b then bytes_from enter exit else one (Around enter inner exit)) others)
      → Decode names text sibling (Cons (Around enter kids exit) ns)
  decode_cut true sibling enter exit kids inner ns others never later h = absurd (never refl)
  decode_cut false sibling enter exit kids inner ns others never later h = (h.0, later _ h.1)

  no_data : (marks : List Mark) (name : Name) → may_enter (Entered n.CharacterReference ∷ marks) name ≡ true → name ≡ n.Data → ⊥
  unfolding may_enter may_hold
  no_data marks name may is = true≢false (sym may ∙ ap (may_hold n.CharacterReference) is)

  decode_whole : (marks : List Mark) (sibling : Option Name) (ns : Nodes) → AreHeld (Entered n.CharacterReference ∷ marks) ns
      → Decode names text sibling (bytewise ns) → Decode names text sibling ns
  decode_whole marks sibling Nil held h = tt
  decode_whole marks sibling (Cons (Around enter kids exit) ns) held h =
      let inner = bytewise kids in
      decode_cut (is_cut enter.name inner) sibling enter exit kids inner ns (bytewise ns)
      (λ is. no_data marks enter.name held.0.0 (cut_named enter.name inner is)) (λ s. decode_whole marks s ns held.1) h

-- ---- raw HTML holds no data

no_data_in_tag : (marks : List Mark) (name : Name) → may_enter (Entered n.HtmlText ∷ marks) name ≡ true → name ≡ n.Data → ⊥
unfolding may_enter may_hold
no_data_in_tag marks name may is = true≢false (sym may ∙ ap (may_hold n.HtmlText) is)

tag_cut : (text : List ℕ) (b : Bool) (enter exit : Event) (kids inner ns others : Nodes) → (b ≡ true → ⊥)
    → BeginTag text (append (if b then bytes_from enter exit else one (Around enter inner exit)) others) → BeginTag text (Cons (Around enter kids exit) ns)
tag_cut text true enter exit kids inner ns others never h = absurd (never refl)
tag_cut text false enter exit kids inner ns others never h = h

tag_whole : (text : List ℕ) (marks : List Mark) (ns : Nodes) → AreHeld (Entered n.HtmlText ∷ marks) ns → BeginTag text (bytewise ns) → BeginTag text ns
tag_whole text marks Nil held h = tt
tag_whole text marks (Cons (Around enter kids exit) ns) held h =
    let inner = bytewise kids in
    tag_cut text (is_cut enter.name inner) enter exit kids inner ns (bytewise ns)
    (λ is. no_data_in_tag marks enter.name held.0.0 (cut_named enter.name inner is)) h

module _ (on : Constructs) (names : Names) (text : List ℕ) where
  -- ---- all nodes

  some_whole : (kids : Nodes) → is_nil (bytewise kids) ≡ false → is_nil kids ≡ false
  some_whole Nil some = some
  some_whole (Cons node ns) some = refl

  asked_whole : (marks : List Mark) (name : Name) (kids : Nodes) → AreHeld (Entered name ∷ marks) kids → HoldsAsked on names text name (bytewise kids)
      → HoldsAsked on names text name kids
  asked_whole marks name kids held h = record {
    is_on = h.is_on;
    call = λ is. without_whole outside_strings kids refl (h.call is);
    reference = λ is. decode_whole names text marks None kids (subst (λ (a : Name). AreHeld (Entered a ∷ marks) kids) is held) (h.reference is);
    heading = λ is. rank_whole names text kids (h.heading is);
    html = λ is. tag_whole text marks kids (subst (λ (a : Name). AreHeld (Entered a ∷ marks) kids) is held) (h.html is);
    some = λ full. some_whole kids (h.some full);
  }

  nil_sound : (ns : Nodes) → is_nil ns ≡ true → AreSound on names text ns
  nil_sound Nil is = tt
  nil_sound (Cons node ns) is = absurd (true≢false (sym is))

  data_is_sound : (enter exit : Event) (inner : Nodes) → is_cut enter.name inner ≡ true → IsSound on names text (Around enter inner exit)
  data_is_sound enter exit inner is = (
    subst (λ (a : Name). HoldsAsked on names text a inner) (sym (cut_named enter.name inner is)) (asks_nothing on names text n.Data inner refl),
    nil_sound inner (cut_empty enter.name inner is),
  )

  sound_cut : (b : Bool) (enter exit : Event) (inner : Nodes) → (b ≡ true → IsSound on names text (Around enter inner exit))
      → AreSound on names text (if b then bytes_from enter exit else one (Around enter inner exit)) → IsSound on names text (Around enter inner exit)
  sound_cut true enter exit inner is h = is refl
  sound_cut false enter exit inner is h = h.0

  pub sound_whole : (marks : List Mark) (ns : Nodes) → AreHeld marks ns → AreSound on names text (bytewise ns) → AreSound on names text ns
  sound_whole marks Nil held h = tt
  sound_whole marks (Cons (Around enter kids exit) ns) held h =
      let inner = bytewise kids in
      let parts = sound_parts on names text (node_bytewise (Around enter kids exit)) (bytewise ns) h in
      let own = sound_cut (is_cut enter.name inner) enter exit inner (data_is_sound enter exit inner) parts.0 in (
        (asked_whole marks enter.name kids held.0.1 own.0, sound_whole (Entered enter.name ∷ marks) kids held.0.1 own.1),
        sound_whole marks ns held.1 parts.1,
      )

-- ---- the document

pub documents_are_sound : DocumentsAreSound
documents_are_sound = λ r text front bs places kids line events ns before spells nested named children same.
    let on = r.parse.constructs in
    let names = r.tables.names in
    let own = spells.kids in
    let all : AreSound on names text kids = subst (AreSound on names text) (sym own.parts) (sound_both on names text front own.left before own.spell.sound) in
    let bytes : bytewise ns ≡ kids = ap bytewise (sym (ap tree nested ∙ tree_is ns named)) ∙ same in
    sound_whole on names text [] ns (all_held ns named (subst HaveChildren nested children)) (subst (AreSound on names text) (sym bytes) all)
