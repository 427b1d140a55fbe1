-- What fits the rows of the grammar place by place is what matches them as patterns.
use Rattle.std.proofs.Common.{◌≡◌, ℕ, Bool, true, false, not, ◌&&◌, ◌||◌, if◌then◌else◌, List, [], ◌∷◌, drop, Option, None, Some, refl, sym, ap, ◌∙◌, subst}
use Rattle.event_check.proofs.Prelude.{after, and_parts, Before, Between, Child, Cons, document_row, Event, fits, Form, has, is_listed, IsInGrammar, KidsFit}
use Rattle.event_check.proofs.Prelude.{line_names, MatchesGrammar, may_end, Name, Nil, Node, node_name, NodeFits, Nodes, row, same_name, Slot, space_names}
use Rattle.event_check.proofs.Prelude.{stands_between, take_child, taken, Taken, the_type, Within}
use denote.Enum.Bare.{same_true}
use Rattle.engine_events.specs.declared.event.Name.TheVariants as n
use Rattle.event_grammar.specs.declared.slot.Between.TheVariants.{Nothing, Spaces, Lines}
use Rattle.event_grammar.specs.declared.slot.Form.TheVariants.{Plain, Ordered, Closing, Opening, OfImage, OfCall}
use Rattle.event_grammar.specs.declared.slot.Slot.TheVariants.{One, Opt, Lead, Many}
use Rattle.event_grammar.specs.InGrammar as g
use Rattle.event_grammar.proofs.EveryName.{of_each_form}
use Rattle.event_grammar.proofs.RowLaw.{IsPlain, plain_from, rows_plain}
use Rattle.event_check.specs.Matches.{NodeMatches, matches, KidsMatch, nothing, between, one, opt, no_opt, many, no_more, lead, no_lead}

none_some : (A : Type 0) (t : Taken) → (let o : Option Taken = None in o ≡ Some t) → A
none_some A t h = absurd (cc)

some_is : (s t : Taken) → Some s ≡ Some t → s ≡ t
some_is s t h = cc

no_true : (A : Type 0) → (let b : Bool = false in b ≡ true) → A
no_true A h = absurd (cc)

if_true : (b : Bool) (x y : Option Taken) → b ≡ true → (if b then x else y) ≡ x
if_true true x y h = refl
if_true false x y h = no_true _ h

some_on : (h : Bool) (now rest : Option Taken) (t : Taken) → (h ≡ true → rest ≡ None) → rest ≡ Some t → (if h then now else rest) ≡ Some t
some_on true now rest t apart e = none_some _ t (sym (apart refl) ∙ e)
some_on false now rest t apart e = e

none_on : (h : Bool) (now rest : Option Taken) → h ≡ false → rest ≡ None → (if h then now else rest) ≡ None
none_on true now rest h e = no_true _ (sym h)
none_on false now rest h e = e

-- ---- what stands between is at no place that may be skipped

abbrev is_filler : Name → Bool
is_filler name = is_listed space_names name || is_listed line_names name

abbrev Clear : Child → Type 0
Clear c = (name : Name) → is_filler name ≡ true → has c name ≡ false

abbrev is_clear_child : Child → Bool
is_clear_child c = not (has c n.SpaceOrTab) && not (has c n.LineEnding) && not (has c n.BlankLineEnding) && not (has c n.BlockQuotePrefix)

abbrev is_clear : List Slot → Bool
is_clear [] = true
is_clear (One c ∷ slots) = is_clear slots
is_clear (Opt c ∷ slots) = is_clear_child c && is_clear slots
is_clear (Many c ∷ slots) = is_clear_child c && is_clear slots
is_clear (Lead c ∷ slots) = is_clear_child c && is_clear slots

abbrev IsClear : List Slot → Type 0
IsClear [] = Unit {0}
IsClear (One c ∷ slots) = IsClear slots
IsClear (Opt c ∷ slots) = Clear c × IsClear slots
IsClear (Many c ∷ slots) = Clear c × IsClear slots
IsClear (Lead c ∷ slots) = Clear c × IsClear slots

not_false : (b : Bool) → not b ≡ true → b ≡ false
not_false true h = no_true _ h
not_false false h = refl

named_by : (c : Child) (a name : Name) (rest : Bool) (b : Bool) → same_name a name ≡ b → has c a ≡ false → (rest ≡ true → has c name ≡ false)
    → (b || rest) ≡ true → has c name ≡ false
named_by c a name rest true e f g h = ap (has c) (sym (same_true the_type tt a name e)) ∙ f
named_by c a name rest false e f g h = g h

either_by : (c : Child) (name : Name) (b : Bool) → is_listed space_names name ≡ b → (is_listed space_names name ≡ true → has c name ≡ false)
    → (is_listed line_names name ≡ true → has c name ≡ false) → (b || is_listed line_names name) ≡ true → has c name ≡ false
either_by c name true e f g h = f e
either_by c name false e f g h = g h

clear_child : (c : Child) → is_clear_child c ≡ true → Clear c
clear_child c h name f =
    let a = and_parts (not (has c n.SpaceOrTab) && not (has c n.LineEnding) && not (has c n.BlankLineEnding)) (not (has c n.BlockQuotePrefix)) h in
    let b = and_parts (not (has c n.SpaceOrTab) && not (has c n.LineEnding)) (not (has c n.BlankLineEnding)) a.0 in
    let d = and_parts (not (has c n.SpaceOrTab)) (not (has c n.LineEnding)) b.0 in
    either_by c name (is_listed space_names name) refl
    (λ (s : is_listed space_names name ≡ true). named_by c n.SpaceOrTab name false (same_name n.SpaceOrTab name) refl (not_false _ d.0) (λ z. no_true _ z) s)
    (λ (s : is_listed line_names name ≡ true).
    named_by c n.LineEnding name _ (same_name n.LineEnding name) refl (not_false _ d.1)
    (λ z. named_by c n.BlankLineEnding name _ (same_name n.BlankLineEnding name) refl (not_false _ b.1)
    (λ z. named_by c n.BlockQuotePrefix name false (same_name n.BlockQuotePrefix name) refl (not_false _ a.1) (λ z. no_true _ z) z) z) s) f

clear_from : (slots : List Slot) → is_clear slots ≡ true → IsClear slots
clear_from [] h = tt
clear_from (One c ∷ slots) h = clear_from slots h
clear_from (Opt c ∷ slots) h = let both = and_parts (is_clear_child c) (is_clear slots) h in (clear_child c both.0, clear_from slots both.1)
clear_from (Many c ∷ slots) h = let both = and_parts (is_clear_child c) (is_clear slots) h in (clear_child c both.0, clear_from slots both.1)
clear_from (Lead c ∷ slots) h = let both = and_parts (is_clear_child c) (is_clear slots) h in (clear_child c both.0, clear_from slots both.1)

rows_clear : (name : Name) (form : Form) → is_clear (row name form) ≡ true
rows_clear name form = of_each_form (λ name form. is_clear (row name form)) refl name form

-- what stands between is a filler
fills : (around : Between) (name : Name) → stands_between around name ≡ true → is_filler name ≡ true
fills Nothing name h = no_true _ h
fills Spaces name h = ap (λ (b : Bool). b || is_listed line_names name) h
fills Lines name h = h

-- rows that lead one way, at places without fillers
abbrev IsReady : List Slot → Type 0
IsReady slots = IsPlain slots × IsClear slots

pub row_ready : (name : Name) (form : Form) → IsReady (row name form)
row_ready name form = (plain_from (row name form) (rows_plain name form), clear_from (row name form) (rows_clear name form))

after_lead : (c : Child) (slots : List Slot) → IsReady (Lead c ∷ slots) → IsReady slots
after_lead c [] p = (tt, tt)
after_lead c (slot ∷ slots) p = (p.0.1, p.1.1)

clear_tail : (slot : Slot) (slots : List Slot) → IsClear (slot ∷ slots) → IsClear slots
clear_tail (One c) slots h = h
clear_tail (Opt c) slots h = h.1
clear_tail (Many c) slots h = h.1
clear_tail (Lead c) slots h = h.1

past_lead : (c : Child) (slots : List Slot) → IsReady (Lead c ∷ slots) → IsReady (drop 1 slots)
past_lead c [] p = (tt, tt)
past_lead c (slot ∷ slots) p = (p.0.2, clear_tail slot slots p.1.1)

lead_takes : (c : Child) (slots : List Slot) (name : Name) → has c name ≡ true → take_child (Lead c ∷ slots) name ≡ Some (taken c slots)
lead_takes c [] name h = if_true (has c name) (Some (taken c [])) None h
lead_takes c (slot ∷ slots) name h = if_true (has c name) (Some (taken c (slot ∷ slots))) (take_child slots name) h

module _ (names : List ℕ → Option (List ℕ)) (bytes : List ℕ) where
  -- ---- what fits matches

  pub record Given (x : Within) (b : Before) (node : Node) (ns : Nodes) (t : Taken) : Type 0 where
    pub child : NodeMatches names bytes x t.form b node
    pub others : KidsMatch names bytes x (after b node) t.rest ns

  given_now : (x : Within) (b : Before) (node : Node) (ns : Nodes) (now t : Taken) → Some now ≡ Some t → Given x b node ns t → Given x b node ns now
  given_now x b node ns now t e k = subst (Given x b node ns) (sym (some_is now t e)) k

  module _ (c : Child) (slots : List Slot) (x : Within) (b : Before) (node : Node) (ns : Nodes) (t : Taken) where
    abbrev name : Name
    name = node_name node

    abbrev Later : List Slot → Type 0
    Later rest = take_child rest name ≡ Some t → KidsMatch names bytes x b rest (Cons node ns)

    one_by : (h : Bool) → has c name ≡ h → Given x b node ns t → (if h then Some (taken c slots) else None) ≡ Some t
        → KidsMatch names bytes x b (One c ∷ slots) (Cons node ns)
    one_by true h k e = let k = given_now x b node ns (taken c slots) t e k in one h k.child k.others
    one_by false h k e = none_some _ t e

    opt_by : (h : Bool) → has c name ≡ h → Given x b node ns t → Later slots → (if h then Some (taken c slots) else take_child slots name) ≡ Some t
        → KidsMatch names bytes x b (Opt c ∷ slots) (Cons node ns)
    opt_by true h k l e = let k = given_now x b node ns (taken c slots) t e k in opt h k.child k.others
    opt_by false h k l e = no_opt (l e)

    many_by : (h : Bool) → has c name ≡ h → Given x b node ns t → Later slots
        → (if h then Some (taken c (Many c ∷ slots)) else take_child slots name) ≡ Some t → KidsMatch names bytes x b (Many c ∷ slots) (Cons node ns)
    many_by true h k l e = let k = given_now x b node ns (taken c (Many c ∷ slots)) t e k in many h k.child k.others
    many_by false h k l e = no_more (l e)

    last_by : (h : Bool) → has c name ≡ h → Given x b node ns t → (if h then Some (taken c []) else None) ≡ Some t
        → KidsMatch names bytes x b (Lead c ∷ []) (Cons node ns)
    last_by true h k e = let k = given_now x b node ns (taken c []) t e k in lead h k.child k.others
    last_by false h k e = none_some _ t e

    lead_by : (slot : Slot) (h : Bool) → has c name ≡ h → Given x b node ns t → Later slots
        → (if h then Some (taken c (slot ∷ slots)) else take_child slots name) ≡ Some t → KidsMatch names bytes x b (Lead c ∷ slot ∷ slots) (Cons node ns)
    lead_by slot true h k l e = let k = given_now x b node ns (taken c (slot ∷ slots)) t e k in lead h k.child k.others
    lead_by slot false h k l e = no_lead (l e)

  take_match : (slots : List Slot) (x : Within) (b : Before) (node : Node) (ns : Nodes) (t : Taken) → take_child slots (node_name node) ≡ Some t
      → Given x b node ns t → KidsMatch names bytes x b slots (Cons node ns)
  take_match [] x b node ns t e k = none_some _ t e
  take_match (One c ∷ slots) x b node ns t e k = one_by c slots x b node ns t (has c (node_name node)) refl k e
  take_match (Opt c ∷ slots) x b node ns t e k =
      opt_by c slots x b node ns t (has c (node_name node)) refl k (λ (e : take_child slots (node_name node) ≡ Some t). take_match slots x b node ns t e k) e
  take_match (Many c ∷ slots) x b node ns t e k =
      many_by c slots x b node ns t (has c (node_name node)) refl k (λ (e : take_child slots (node_name node) ≡ Some t). take_match slots x b node ns t e k) e
  take_match (Lead c ∷ []) x b node ns t e k = last_by c [] x b node ns t (has c (node_name node)) refl k e
  take_match (Lead c ∷ slot ∷ slots) x b node ns t e k =
      lead_by c slots x b node ns t slot (has c (node_name node)) refl k (λ (e : take_child slots (node_name node) ≡ Some t). take_match slots x b node ns t e k) e

  end_match : (slots : List Slot) (x : Within) (b : Before) → may_end slots ≡ true → KidsMatch names bytes x b slots Nil
  end_match [] x b h = nothing
  end_match (One c ∷ slots) x b h = no_true _ h
  end_match (Opt c ∷ slots) x b h = no_opt (end_match slots x b h)
  end_match (Many c ∷ slots) x b h = no_more (end_match slots x b h)
  end_match (Lead c ∷ []) x b h = no_lead nothing
  end_match (Lead c ∷ slot ∷ slots) x b h = no_lead (end_match slots x b h)

  mutual
    node_matches : (x : Within) (form : Form) (b : Before) (node : Node) → NodeFits names bytes x form b node → NodeMatches names bytes x form b node
    node_matches x form b node (fits p q r s t u v w) = matches p q r s t u v (kids_match _ _ _ _ w)

    pub kids_match : (x : Within) (b : Before) (slots : List Slot) (ns : Nodes) → KidsFit names bytes x b slots ns → KidsMatch names bytes x b slots ns
    kids_match x b slots ns (g.end h) = end_match slots x b h
    kids_match x b slots ns (g.takes {node = node} {ns = others} {t = t} h f k) =
        take_match slots x b node others t h (record { child = node_matches _ _ _ _ f; others = kids_match _ _ _ _ k })
    kids_match x b slots ns (g.between h s f k) = between h s (node_matches _ _ _ _ f) (kids_match _ _ _ _ k)

  -- ---- what matches fits

  -- a place is skipped
  skip : (slots less : List Slot) → (may_end less ≡ true → may_end slots ≡ true)
      → ((name : Name) (t : Taken) → take_child less name ≡ Some t → take_child slots name ≡ Some t)
      → ((name : Name) → is_filler name ≡ true → take_child less name ≡ None → take_child slots name ≡ None)
      → (x : Within) (b : Before) (ns : Nodes) → KidsFit names bytes x b less ns → KidsFit names bytes x b slots ns
  skip slots less m t u x b ns (g.end h) = g.end (m h)
  skip slots less m t u x b ns (g.takes {t = k} h f o) = g.takes (t _ k h) f o
  skip slots less m t u x b ns (g.between {node = node} h s f o) =
      g.between (u (node_name node) (fills x.around (node_name node) s) h) s f (skip slots less m t u _ _ _ o)

  skip_opt : (c : Child) (slots : List Slot) → IsReady (Opt c ∷ slots) → (x : Within) (b : Before) (ns : Nodes)
      → KidsFit names bytes x b slots ns → KidsFit names bytes x b (Opt c ∷ slots) ns
  skip_opt c slots p =
      skip (Opt c ∷ slots) slots (λ h. h)
      (λ (name : Name) (t : Taken) h. some_on (has c name) (Some (taken c slots)) (take_child slots name) t (p.0.0 name) h)
      (λ (name : Name) f h. none_on (has c name) (Some (taken c slots)) (take_child slots name) (p.1.0 name f) h)

  skip_many : (c : Child) (slots : List Slot) → IsReady (Many c ∷ slots) → (x : Within) (b : Before) (ns : Nodes)
      → KidsFit names bytes x b slots ns → KidsFit names bytes x b (Many c ∷ slots) ns
  skip_many c slots p =
      skip (Many c ∷ slots) slots (λ h. h)
      (λ (name : Name) (t : Taken) h. some_on (has c name) (Some (taken c (Many c ∷ slots))) (take_child slots name) t (p.0.0 name) h)
      (λ (name : Name) f h. none_on (has c name) (Some (taken c (Many c ∷ slots))) (take_child slots name) (p.1.0 name f) h)

  skip_lead : (c : Child) (slots : List Slot) → IsReady (Lead c ∷ slots) → (x : Within) (b : Before) (ns : Nodes)
      → KidsFit names bytes x b (drop 1 slots) ns → KidsFit names bytes x b (Lead c ∷ slots) ns
  skip_lead c [] p =
      skip (Lead c ∷ []) [] (λ h. h) (λ (name : Name) (t : Taken) h. none_some _ t h)
      (λ (name : Name) f h. none_on (has c name) (Some (taken c [])) None (p.1.0 name f) h)
  skip_lead c (slot ∷ slots) p =
      skip (Lead c ∷ slot ∷ slots) slots (λ h. h)
      (λ (name : Name) (t : Taken) h. some_on (has c name) (Some (taken c (slot ∷ slots))) (take_child slots name) t (p.0.0 name) h)
      (λ (name : Name) f h. none_on (has c name) (Some (taken c (slot ∷ slots))) (take_child slots name) (p.1.0 name f) h)

  mutual
    node_fits : (x : Within) (form : Form) (b : Before) (node : Node) → NodeMatches names bytes x form b node → NodeFits names bytes x form b node
    node_fits x form b node (matches {enter = enter} p q r s t u v w) = fits p q r s t u v (kids_fit _ _ _ _ w (row_ready enter.name form))

    pub kids_fit : (x : Within) (b : Before) (slots : List Slot) (ns : Nodes) → KidsMatch names bytes x b slots ns → IsReady slots → KidsFit names bytes x b slots ns
    kids_fit x b slots ns nothing p = g.end refl
    kids_fit x b slots ns (between h s f k) p = g.between h s (node_fits _ _ _ _ f) (kids_fit _ _ _ _ k p)
    kids_fit x b slots ns (one {c = c} {slots = rest} {node = node} h f k) p =
        g.takes {t = taken c rest} (if_true (has c (node_name node)) (Some (taken c rest)) None h) (node_fits _ _ _ _ f) (kids_fit _ _ _ _ k p)
    kids_fit x b slots ns (opt {c = c} {slots = rest} {node = node} h f k) p =
        g.takes {t = taken c rest} (if_true (has c (node_name node)) (Some (taken c rest)) (take_child rest (node_name node)) h) (node_fits _ _ _ _ f)
        (kids_fit _ _ _ _ k (p.0.1, p.1.1))
    kids_fit x b slots ns (no_opt {c = c} {slots = rest} k) p = skip_opt c rest p _ _ _ (kids_fit _ _ _ _ k (p.0.1, p.1.1))
    kids_fit x b slots ns (many {c = c} {slots = rest} {node = node} h f k) p =
        g.takes {t = taken c (Many c ∷ rest)} (if_true (has c (node_name node)) (Some (taken c (Many c ∷ rest))) (take_child rest (node_name node)) h)
        (node_fits _ _ _ _ f) (kids_fit _ _ _ _ k p)
    kids_fit x b slots ns (no_more {c = c} {slots = rest} k) p = skip_many c rest p _ _ _ (kids_fit _ _ _ _ k (p.0.1, p.1.1))
    kids_fit x b slots ns (lead {c = c} {slots = rest} {node = node} h f k) p =
        g.takes {t = taken c rest} (lead_takes c rest (node_name node) h) (node_fits _ _ _ _ f) (kids_fit _ _ _ _ k (after_lead c rest p))
    kids_fit x b slots ns (no_lead {c = c} {slots = rest} k) p = skip_lead c rest p _ _ _ (kids_fit _ _ _ _ k (past_lead c rest p))

  -- ---- lists

  document_ready : IsReady document_row
  document_ready = (plain_from document_row refl, clear_from document_row refl)

  pub in_matches : (events : List Event) → IsInGrammar names bytes events → MatchesGrammar names bytes events
  in_matches events k =
      record { nodes = k.nodes; nested = k.nested; match_ = kids_match _ _ _ _ k.fit; places = k.places; defined = k.defined }

  pub matches_in : (events : List Event) → MatchesGrammar names bytes events → IsInGrammar names bytes events
  matches_in events k =
      record { nodes = k.nodes; nested = k.nested; fit = kids_fit _ _ _ _ k.match_ document_ready; places = k.places; defined = k.defined }
