-- Tests that hold, the names of events, and places of exits.
use Rattle.std.proofs.Common.{◌≡◌, ℕ, ◌∙◌, Bool, true, false, not, ◌==◌, ◌&&◌, ◌||◌, if◌then◌else◌, List, [], ◌∷◌, ◌++◌, Option, None, Some, refl, sym, ap}
use Rattle.std.proofs.Common.{append_assoc}
use Rattle.std.proofs.lemmas.Bool.{and_parts, eqb-true}
use denote.Enum.Bare.{same_true}
use Rattle.engine_events.specs.contracts.event.Name.{the_type}
use Rattle.engine_events.specs.declared.event.Event.{Event}
use Rattle.engine_events.specs.declared.event.Name.{Name as EventName}
use Rattle.engine_events.specs.declared.place.Point.{Point}
use Rattle.markdown_engine.specs.KeptState.{KeptState}
use Rattle.markdown_engine.specs.Laws.{IsFront, AreNested}
use Rattle.markdown_engine.specs.Order.{AreTidy, Reaches}
use Rattle.markdown_engine.specs.OrderLaws.{reaches_on, stays, tidy_on}
use Rattle.markdown_engine.specs.Reading.{Effect, Frame}
use Rattle.markdown_engine.specs.VirtualText.{is_feed}
use Rattle.engine_programs.specs.Bodies.{Token, FixedName, HeldName, by_byte, has, held_name, names_of}
use Rattle.engine_programs.specs.Sorts.{all_fixed, are_none, implies, same_token, same_tokens}

-- ---- tests

pub either_way : {A : Type 0} (P : A → Type 0) (t : Bool) (x y : A) → (t ≡ true → P x) → (t ≡ false → P y) → P (if t then x else y)
either_way P true x y h k = h refl
either_way P false x y h k = k refl

pub implies_holds : (a b : Bool) → implies a b ≡ true → a ≡ true → b ≡ true
implies_holds true b h e = h
implies_holds false b h e = absurd (let f : false ≡ true = e in cc)

pub not_true : (a : Bool) → not a ≡ true → a ≡ false
not_true true h = absurd (let f : false ≡ true = h in cc)
not_true false h = refl

pub not_so : (a b : Bool) → (a ≡ true → b ≡ true) → b ≡ false → a ≡ false
not_so true b h e = absurd (let f : true ≡ false = sym (h refl) ∙ e in cc)
not_so false b h e = refl

pub or_false : (z : Bool) → (z || false) ≡ true → z ≡ true
or_false true h = refl
or_false false h = absurd (let f : false ≡ true = h in cc)

pub or_first : (a b : Bool) → a ≡ true → (a || b) ≡ true
or_first true b h = refl
or_first false b h = absurd (let f : false ≡ true = h in cc)

pub or_second : (a b : Bool) → b ≡ true → (a || b) ≡ true
or_second true b h = refl
or_second false b h = h

pub never_both : (a : Bool) → a ≡ true → a ≡ false → ⊥
never_both a h k = let f : true ≡ false = sym h ∙ k in cc

-- ---- the byte at hand

pub has_some : (p : ℕ → Bool) (v : Option ℕ) → has p v ≡ true → (b : ℕ) × (v ≡ Some b)
has_some p None h = absurd (let f : false ≡ true = h in cc)
has_some p (Some b) h = (b, refl)

no_feed : (f : Bool) (p : ℕ → Bool) (b : ℕ) (e : Bool) → (b == 10) ≡ e → p b ≡ true → (f ≡ false → (b == 10) ≡ false) → (f && p 10) ≡ false → (b == 10) ≡ false
no_feed f p b false q h k r = q
no_feed false p b true q h k r = k refl
no_feed true p b true q h k r = absurd (let g : p 10 ≡ true = ap p (sym (eqb-true b 10 q)) ∙ h in let s : p 10 ≡ false = r in
    let f : true ≡ false = sym g ∙ s in cc)

-- a byte that is known to be one of some is no line feed unless that is one of them
pub feed_among : (f : Bool) (p : ℕ → Bool) (v : Option ℕ) → ((b : ℕ) → v ≡ Some b → p b ≡ true) → (f ≡ false → is_feed v ≡ false) → (f && p 10) ≡ false
    → is_feed v ≡ false
feed_among f p None h k r = refl
feed_among f p (Some b) h k r = no_feed f p b (b == 10) refl (h b refl) k r

pub has_each : (p : ℕ → Bool) (v : Option ℕ) → has p v ≡ true → (b : ℕ) → v ≡ Some b → p b ≡ true
has_each p v h b e = ap (has p) (sym e) ∙ h

pub has_none : (p : ℕ → Bool) (v : Option ℕ) → has p v ≡ false → (b : ℕ) → v ≡ Some b → not (p b) ≡ true
has_none p v h b e = ap not (ap (has p) (sym e) ∙ h)

pub by_byte_each : {M : Type 0} (P : Effect M → Type 0) (v : Option ℕ) (x y : Effect M) → P x → ((b : ℕ) → v ≡ Some b → P y) → P (by_byte v x y)
by_byte_each P None x y h k = h
by_byte_each P (Some b) x y h k = k b refl

-- ---- names

pub names_same : (k k2 : KeptState) → ((i : ℕ) → held_name k2 i ≡ held_name k i) → (ts : List Token) → names_of k2 ts ≡ names_of k ts
names_same k k2 h [] = refl
names_same k k2 h (FixedName n ∷ ts) = ap (λ (z : List EventName). n ∷ z) (names_same k k2 h ts)
names_same k k2 h (HeldName i ∷ ts) = ap (λ (z : EventName). z ∷ names_of k2 ts) (h i) ∙ ap (λ (z : List EventName). held_name k i ∷ z) (names_same k k2 h ts)

pub fixed_same : (k k2 : KeptState) (ts : List Token) → all_fixed ts ≡ true → names_of k2 ts ≡ names_of k ts
fixed_same k k2 [] h = refl
fixed_same k k2 (FixedName n ∷ ts) h = ap (λ (z : List EventName). n ∷ z) (fixed_same k k2 ts h)
fixed_same k k2 (HeldName i ∷ ts) h = absurd (let f : false ≡ true = h in cc)

pub names_both : (k : KeptState) (ts us : List Token) → names_of k (ts ++ us) ≡ names_of k ts ++ names_of k us
names_both k [] us = refl
names_both k (FixedName n ∷ ts) us = ap (λ (z : List EventName). n ∷ z) (names_both k ts us)
names_both k (HeldName i ∷ ts) us = ap (λ (z : List EventName). held_name k i ∷ z) (names_both k ts us)

pub none_is : (ts : List Token) → are_none ts ≡ true → ts ≡ []
none_is [] h = refl
none_is (t ∷ ts) h = absurd (let f : false ≡ true = h in cc)

pub token_is : (t u : Token) → same_token t u ≡ true → t ≡ u
token_is (FixedName a) (FixedName b) h = ap FixedName (same_true the_type tt a b h)
token_is (FixedName a) (HeldName j) h = absurd (let f : false ≡ true = h in cc)
token_is (HeldName i) (FixedName b) h = absurd (let f : false ≡ true = h in cc)
token_is (HeldName i) (HeldName j) h = ap HeldName (eqb-true i j h)

pub tokens_are : (ts us : List Token) → same_tokens ts us ≡ true → ts ≡ us
tokens_are [] [] h = refl
tokens_are [] (u ∷ us) h = absurd (let f : false ≡ true = h in cc)
tokens_are (t ∷ ts) [] h = absurd (let f : false ≡ true = h in cc)
tokens_are (t ∷ ts) (u ∷ us) h =
    let p = and_parts (same_token t u) (same_tokens ts us) h in
    ap (λ (z : Token). z ∷ ts) (token_is t u p.0) ∙ ap (λ (z : List Token). u ∷ z) (tokens_are ts us p.1)

-- ---- events

pub front_on : (a b c : List Event) → IsFront a b → IsFront b c → IsFront a c
front_on a b c h k = (h.0 ++ k.0, k.1 ∙ (ap (λ (z : List Event). z ++ k.0) h.1 ∙ append_assoc a h.0 k.0))

pub nested_on : {M : Type 0} (a b : List Event) (fs : List (Frame M)) (d : List Event) → IsFront a b → AreNested b fs d → AreNested a fs d
nested_on a b [] d h k = front_on a b d h k
nested_on a b (f ∷ fs) d h k = (front_on a b f.start.events h k.0, k.1)

-- ---- places of exits

pub exit_on : (b : Bool) (line from to : Point) (es : List Event) → Reaches from to → (let p = if b then line else from in AreTidy es p × Reaches p from)
    → (let p = if b then line else to in AreTidy es p × Reaches p to)
exit_on true line from to es k h = (h.0, reaches_on line from to h.1 k)
exit_on false line from to es k h = (tidy_on es from to h.0 k, stays to)

-- not right after a line ending the place of an exit is here
pub exit_here : (b : Bool) (line p : Point) (es : List Event) → b ≡ false → AreTidy es p → (let q = if b then line else p in AreTidy es q × Reaches q p)
exit_here true line p es h t = absurd (let f : true ≡ false = h in cc)
exit_here false line p es h t = (t, stays p)
