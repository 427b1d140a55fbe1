-- What the grammar says of the bytes of events, at any depth: an ending is one, and an ATX heading begins with 1 to 6 bytes.
use Rattle.std.proofs.Common.{◌≡◌, ℕ, Bool, true, false, List, ◌∷◌, Option, None, Some, refl, sym, subst, if◌then◌else◌}
use denote.Enum.Bare.{same_true, same_false, true_same, false_same}
use Rattle.engine_events.specs.contracts.event.Name.{the_type}
use Rattle.engine_events.specs.Names.{same_name}
use Rattle.engine_events.specs.declared.event.Name.{Name}
use Rattle.engine_events.specs.declared.event.Name.TheVariants as n
use Rattle.event_grammar.specs.declared.slot.Child.TheVariants.{As}
use Rattle.event_grammar.specs.declared.slot.Form.{Form}
use Rattle.event_grammar.specs.declared.slot.Form.TheVariants.{Opening}
use Rattle.event_grammar.specs.declared.slot.Slot.{Slot}
use Rattle.event_grammar.specs.declared.slot.Slot.TheVariants.{One}
use Rattle.event_grammar.specs.Facts.{is_ending, is_size, is_fact}
use Rattle.event_grammar.specs.Grammar.{row}
use Rattle.event_grammar.specs.Slots.{Taken, taken}
use Rattle.event_grammar.specs.InGrammar.{Within, Before, node_name}
use Rattle.event_grammar.specs.Trees.{Node, Nodes, Around, Nil, Cons}
use Rattle.event_check.specs.Matches.{NodeMatches, matches, KidsMatch, nothing, between, one, opt, no_opt, many, no_more, lead, no_lead}
use Rattle.event_meaning.specs.Children.{child, text_of, text_or_none, text_in}

-- the bytes of a line ending are one
abbrev pub EndingFact : Name → List ℕ → Type 0
EndingFact n.LineEnding text = is_ending text ≡ true
EndingFact name text = Unit {0}

module _ (bytes : List ℕ) where
  -- the first sequence of an ATX heading has 1 to 6 bytes
  abbrev pub RankFact : Name → Nodes → Type 0
  RankFact n.HeadingAtx kids = is_size 6 (text_in bytes n.HeadingAtxSequence kids) ≡ true
  RankFact name kids = Unit {0}

  -- the same at any depth
  abbrev mutual
    pub IsSound : Node → Type 0
    IsSound (Around enter kids exit) = EndingFact enter.name (text_of bytes (Around enter kids exit)) × RankFact enter.name kids × AreSound kids

    pub AreSound : Nodes → Type 0
    AreSound Nil = Unit {0}
    AreSound (Cons node ns) = IsSound node × AreSound ns

-- ---- from the grammar

-- what a choice is, by what it is made on
if_yes : {A : Type 0} (b : Bool) (x y : A) → b ≡ true → (if b then x else y) ≡ x
if_yes true x y h = refl
if_yes false x y h = absurd (cc)

if_no : {A : Type 0} (b : Bool) (x y : A) → b ≡ false → (if b then x else y) ≡ y
if_no true x y h = absurd (cc)
if_no false x y h = refl

is_no : (b : Bool) (t : Taken) → (if b then Some t else None) ≡ None → b ≡ false
is_no true t h = absurd (cc)
is_no false t h = refl

module _ (names : List ℕ → Option (List ℕ)) (bytes : List ℕ) where
  ending_fact : (name : Name) (form : Form) (sibling : Option Name) (text : List ℕ) → is_fact names name form sibling text ≡ true → EndingFact name text
  ending_fact n.LineEnding form sibling text h = h
  ending_fact name form sibling text h = tt

  size_fact : (name : Name) (sibling : Option Name) (text : List ℕ) → n.HeadingAtxSequence ≡ name → is_fact names name Opening sibling text ≡ true
      → is_size 6 text ≡ true
  size_fact name sibling text e h = subst (λ a. is_fact names a Opening sibling text ≡ true) (sym e) h

  -- the first sequence, where a child matches that of a heading
  sequence_first : (x : Within) (b : Before) (node : Node) (ns : Nodes) → same_name n.HeadingAtxSequence (node_name node) ≡ true
      → NodeMatches names bytes x Opening b node → is_size 6 (text_in bytes n.HeadingAtxSequence (Cons node ns)) ≡ true
  sequence_first x b node ns h (matches {enter = enter} {exit = exit} {kids = kids} p q r s t u v w) =
      let e : n.HeadingAtxSequence ≡ enter.name = same_true the_type tt n.HeadingAtxSequence enter.name h in
      subst (λ found. is_size 6 (text_or_none bytes found) ≡ true)
      (sym (if_yes (same_name enter.name n.HeadingAtxSequence) (Some (Around enter kids exit)) (child n.HeadingAtxSequence ns)
      (true_same the_type enter.name n.HeadingAtxSequence (sym e))))
      (size_fact enter.name b.sibling (text_of bytes (Around enter kids exit)) e v)

  not_first : (name : Name) → same_name n.HeadingAtxSequence name ≡ false → same_name name n.HeadingAtxSequence ≡ false
  not_first name h = false_same the_type tt name n.HeadingAtxSequence (λ e. same_false the_type n.HeadingAtxSequence name h (sym e))

  first_rank : (x : Within) (b : Before) (rest : List Slot) (ns : Nodes) → KidsMatch names bytes x b (One (As n.HeadingAtxSequence Opening) ∷ rest) ns
      → is_size 6 (text_in bytes n.HeadingAtxSequence ns) ≡ true
  first_rank x b rest ns (one {node = node} {ns = others} h f k) = sequence_first x b node others h f
  first_rank x b rest ns (between {node = node} {ns = others} h s f k) =
      let no : same_name n.HeadingAtxSequence (node_name node) ≡ false =
      is_no (same_name n.HeadingAtxSequence (node_name node)) (taken (As n.HeadingAtxSequence Opening) rest) h in
      subst (λ found. is_size 6 (text_or_none bytes found) ≡ true)
      (sym (if_no (same_name (node_name node) n.HeadingAtxSequence) (Some node) (child n.HeadingAtxSequence others) (not_first (node_name node) no)))
      (first_rank x b rest others k)

  rank_fact : (x : Within) (b : Before) (name : Name) (form : Form) (kids : Nodes) → KidsMatch names bytes x b (row name form) kids → RankFact bytes name kids
  rank_fact x b n.HeadingAtx form kids k = first_rank x b _ kids k
  rank_fact x b name form kids k = tt

  mutual
    is_sound : (x : Within) (form : Form) (b : Before) (node : Node) → NodeMatches names bytes x form b node → IsSound bytes node
    is_sound x form b node (matches {enter = enter} {exit = exit} {kids = kids} p q r s t u v w) =
        (ending_fact enter.name form b.sibling (text_of bytes (Around enter kids exit)) v, rank_fact _ _ enter.name form kids w, are_sound _ _ _ kids w)

    pub are_sound : (x : Within) (b : Before) (slots : List Slot) (ns : Nodes) → KidsMatch names bytes x b slots ns → AreSound bytes ns
    are_sound x b slots ns nothing = tt
    are_sound x b slots ns (between h s f k) = (is_sound _ _ _ _ f, are_sound _ _ _ _ k)
    are_sound x b slots ns (one h f k) = (is_sound _ _ _ _ f, are_sound _ _ _ _ k)
    are_sound x b slots ns (opt h f k) = (is_sound _ _ _ _ f, are_sound _ _ _ _ k)
    are_sound x b slots ns (no_opt k) = are_sound _ _ _ _ k
    are_sound x b slots ns (many h f k) = (is_sound _ _ _ _ f, are_sound _ _ _ _ k)
    are_sound x b slots ns (no_more k) = are_sound _ _ _ _ k
    are_sound x b slots ns (lead h f k) = (is_sound _ _ _ _ f, are_sound _ _ _ _ k)
    are_sound x b slots ns (no_lead k) = are_sound _ _ _ _ k
