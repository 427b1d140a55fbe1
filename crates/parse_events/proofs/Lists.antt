-- A walk stands after the start of an item, and of its list if it is the first, if these are written.
use Rattle.std.proofs.Common.{◌≡◌, ◌⊎◌, inl, inr, ℕ, Bool, true, false, List, ◌∷◌, Option, refl, sym, ap, ◌∙◌, subst, arith}
use Rattle.parse_events.proofs.Prelude.{around, bare_container, bare_end, Container, End, end_in, enter_at, entered, Enters, forest_in, Growth, InContainer}
use Rattle.parse_events.proofs.Prelude.{InList, innermost, is_in_list, IsBegun, IsListed, IsOfList, IsPrefixOf, IsWrittenToRest, Item, ItemParts, level}
use Rattle.parse_events.proofs.Prelude.{LevelsGoOn, line_at, LineRest, list_name, Nil, NoBlock, Nodes, one, Opened, Reading, Spells, Standing, standing}
use Rattle.parse_events.proofs.Prelude.{Stands, StandsAt, true≢false, Walk, with_nodes, Within, within, WritesStart, written_to}
use Rattle.engine_events.specs.declared.event.Name.TheVariants as n
use Rattle.parse_lines.specs.Ends.{WritesQuiet}
use Rattle.parse_events.proofs.Containers.{spells_start}
use Rattle.parse_events.proofs.Endings.{quiet_mute}
use Rattle.parse_events.proofs.LastBlank.{inside_ends}
use Rattle.parse_events.proofs.Leaves.{line_in_text}
use Rattle.parse_events.proofs.Lines.{rest_line_at}
use Rattle.parse_events.proofs.Starts.{bare_in_line, prefix_defines, prefix_filled, prefix_named, prefix_sound, prefix_start}

module _ {A : Type 0} (r : Reading) (text : List ℕ) (front : Nodes) (go : LevelsGoOn r text front) where
  -- a list is the innermost that is open
  pub listed_already : (o : Opened) (outer : List Container) (here : LineRest) (left : List LineRest) (w : Walk A) → is_in_list o.outer ≡ true
      → Stands r text front o outer (Within here left) w → IsListed r text front o outer here left w
  listed_already o outer here left w in_list was =
      elim was.at [
        | inl at ↦
            record {
              constructs = was.constructs;
              around = was.around;
              same = was.same;
              order = was.order;
              stands = at.0;
              in_list = in_list;
              written = inl (at.1, was.begun);
              fits = let most = line_in_text text (standing w) at.0.line in let bounds = bare_in_line text here left w at.0 at.1 in omega (arith, most, bounds.1);
              bare = let bounds = bare_in_line text here left w at.0 at.1 in rest_line_at text here left w (bare_end w).index at.0 at.1 bounds.0 bounds.1;
              spells = was.spells;
            }
        | inr past ↦ absurd past
      ]

  -- a list begins after white space
  pub list_starts : (o : Opened) (outer : List Container) (here : LineRest) (left : List LineRest) (number : Option ℕ) (old mid new : Walk A)
      → is_in_list o.outer ≡ false → Stands r text front o outer (Within here left) old → WritesQuiet text old.out mid.out → written_to mid ≡ bare_end old
      → Enters text (list_name number) mid.out new.out → written_to new ≡ written_to mid → standing new ≡ standing old → bare_end new ≡ bare_end old
      → IsListed r text front (within InList o) outer here left new
  list_starts o outer here left number old mid new bare was space end enters stays same ends =
      elim was.at [
        | inl at ↦
            let bounds = bare_in_line text here left old at.0 at.1 in
            let most = line_in_text text (standing old) at.0.line in
            let line : line_at text (bare_end old).index ≡ line_at text (written_to old).index =
            rest_line_at text here left old (bare_end old).index at.0 at.1 bounds.0 bounds.1 in
            let enter = enter_at text (list_name number) (end_in mid.out) in
            let index : (end_in mid.out).index ≡ (bare_end old).index = ap (λ (x : End). x.index) end in
            record {
              constructs = ap (λ (s : Standing). s.on) same ∙ was.constructs;
              around = ap around same ∙ was.around;
              same = was.same;
              order = enters.order;
              stands = subst (StandsAt text (Within here left)) (sym same) at.0;
              in_list = refl;
              written = inr (stays ∙ end ∙ sym ends, refl);
              fits = let there = ap (λ (x : End). x.index) ends in omega (arith, most, bounds.1, there);
              bare = ap (λ (x : End). line_at text x.index) (ends ∙ sym end ∙ sym stays);
              spells =
                  subst (λ (g : Growth). Spells r text front (within InList o) g (line_at text (written_to new).index))
                  (sym (enters.forest ∙ ap (λ (g : Growth). entered g enter) space.writes.forest))
                  (go.list o (with_nodes (forest_in text old.out) space.nodes) (line_at text (written_to new).index) number enter bare refl
                  (omega (arith, most, bounds.1, index))
                  (subst (λ (k : ℕ). Spells r text front o (with_nodes (forest_in text old.out) space.nodes) k) (sym (ap (line_at text) index ∙ line))
                  (go.mute o (forest_in text old.out) (line_at text (written_to old).index) space.nodes (quiet_mute space.nodes space.quiet) was.begun was.spells)));
            }
        | inr past ↦ absurd past
      ]

  begun_or_none : (o : Opened) (space : Nodes) (w : Walk A) → (IsWrittenToRest w × IsBegun o) ⊎ ((written_to w ≡ bare_end w) × (o.kids ≡ NoBlock))
      → (written_to w ≡ bare_end w → space ≡ Nil) → IsBegun o ⊎ (space ≡ Nil)
  begun_or_none o space w (inl begun) nothing = inl begun.1
  begun_or_none o space w (inr first) nothing = inr (nothing first.0)

  -- an item begins in its list; no white space is written between the start of the list and its first item
  pub item_starts : (o : Opened) (outer : List Container) (item : ItemParts) (goes_on : Bool) (here there : LineRest) (left others : List LineRest)
      (old new : Walk A) → IsListed r text front o outer here left old
      → IsOfList (InContainer (bare_container (Item item)) goes_on) (innermost (forest_in text old.out).outer)
      → (start : WritesStart text n.ListItem (IsPrefixOf text (Item item)) (bare_end old) old.out new.out) → (written_to old ≡ bare_end old → start.space.nodes ≡ Nil)
      → IsWrittenToRest new → StandsAt text (Within there others) (standing new) → around (standing new) ≡ Item item ∷ around (standing old)
      → new.on.now ≡ old.on.now
      → Stands r text front (within (InContainer (bare_container (Item item)) goes_on) o) (Item item ∷ outer) (Within there others) new
  item_starts o outer item goes_on here there left others old new was of_list start nothing wr st inside on =
      let index : (end_in start.before).index ≡ (bare_end old).index = ap (λ (x : End). x.index) start.begins in
      record {
        constructs = on ∙ was.constructs;
        around = inside ∙ ap (λ (cs : List Container). Item item ∷ cs) was.around;
        same = ap (λ (cs : List Container). bare_container (Item item) ∷ cs) was.same;
        order = start.writes.order;
        at = inl (st, wr, tt);
        spells =
            spells_start r text front go o (bare_container (Item item)) goes_on (enter_at text n.ListItem (end_in start.before)) (forest_in text old.out)
            (forest_in text start.before) (forest_in text new.out) start.space.nodes start.first (written_to old).index (written_to new).index
            (begun_or_none o start.space.nodes old was.written nothing) start.space.quiet start.space.writes.forest
            (start.writes.forest ∙ ap (λ (g : Growth). with_nodes g (one start.first)) start.enters.forest)
            was.in_list refl of_list
            (let most = was.fits in omega (arith, most, index))
            (prefix_named text (Item item) start.first start.is_prefix) (prefix_defines text (Item item) start.first start.is_prefix)
            (prefix_start r text front (Item item) goes_on n.ListItem start.first start.is_prefix)
            (prefix_filled text (Item item) goes_on start.first start.is_prefix)
            (prefix_sound r.parse.constructs r.tables.names text (Item item) start.first start.is_prefix)
            (ap (line_at text) index ∙ was.bare)
            was.spells;
        begun = λ listed none. true≢false (sym listed);
        ends = λ none.
            inside_ends (Within there others) NoBlock (forest_in text new.out).kids (level (InContainer (bare_container (Item item)) goes_on) o.kids) o.outer none;
      }
