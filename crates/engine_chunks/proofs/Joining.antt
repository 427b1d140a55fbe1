-- One event of the walk that joins the chunks of all chains.
use Rattle.std.proofs.Common.{◌≡◌, ◌∙◌, ◌<◌, ◌≤◌, ◌+◌, ◌==◌, ◌++◌, ℕ, zero, suc, Bool, true, false, if◌then◌else◌, List, [], ◌∷◌, length, take, get_or, Option}
use Rattle.std.proofs.Common.{None, Some, is_some, unwrap_or, refl, sym, ap, arith}
use Rattle.std.proofs.lemmas.Bool.{eq-eqb, ne_eqb}
use Rattle.std.proofs.lemmas.List.{take_all}
use Rattle.std.proofs.Math.Seq.{take-suc}
use Rattle.engine_events.specs.declared.event.Event.{Event}
use Rattle.engine_events.specs.declared.event.Link.{Link}
use Rattle.engine_events.specs.Events.{link_of, previous_of, with_link}
use Rattle.engine_events.specs.Links.{present}
use Rattle.engine_chunks.specs.Joins.{link_all, is_that, link_from, last_after, names_before, next_in, update_at, with_next, with_next_if}

-- Links

is_present : (o : Option ℕ) → present (is_some o) (unwrap_or o 0) ≡ o
is_present None = refl
is_present (Some n) = refl

link_back : (l : Link) (e : Event) → link_of (with_link (Some l) e) ≡ Some l
link_back l e =
    let f = λ (previous next : Option ℕ). let m : Link = record { previous = previous; next = next; content = l.content } in Some m in
    ap (λ (z : Option ℕ). f z (present (is_some l.next) (unwrap_or l.next 0))) (is_present l.previous)
    ∙ ap (λ (z : Option ℕ). f l.previous z) (is_present l.next)

-- the chunk before stays
next_keeps : (i : ℕ) (e : Event) (o : Option Link) → link_of e ≡ o → previous_of (link_of (next_in i e o)) ≡ previous_of o
next_keeps i e None h = ap previous_of h
next_keeps i e (Some l) h = ap previous_of (link_back (record { previous = l.previous; next = Some i; content = l.content }) e)

kept : (m : Option ℕ) (e : Event) → previous_of (link_of (with_next_if m e)) ≡ previous_of (link_of e)
kept None e = refl
kept (Some i) e = next_keeps i e (link_of e) refl

-- the last one counts
over : (i j : ℕ) (e : Event) (o : Option Link) → link_of e ≡ o → with_next i (next_in j e o) ≡ next_in i e o
over i j e None h = ap (next_in i e) h
over i j e (Some l) h =
    let m : Link = record { previous = l.previous; next = Some j; content = l.content } in
    ap (next_in i (with_link (Some m) e)) (link_back m e)

next_over : (i : ℕ) (m : Option ℕ) (e : Event) → with_next i (with_next_if m e) ≡ with_next i e
next_over i None e = refl
next_over i (Some j) e = over i j e (link_of e) refl

-- Which chunk is next

last_more : (k at : ℕ) (es : List Event) (e : Event) (found : Option ℕ) → last_after k at (es ++ e ∷ []) found
    ≡ (if names_before k e then Some (at + length es) else last_after k at es found)
last_more k at [] e found = ap (λ (n : ℕ). if names_before k e then Some n else found) (let z : at ≡ at + 0 = omega arith in z)
last_more k at (x ∷ es) e found =
    last_more k (at + 1) es e (if names_before k x then Some at else found)
    ∙ ap (λ (n : ℕ). if names_before k e then Some n else last_after k (at + 1) es (if names_before k x then Some at else found))
    (let z : (at + 1) + length es ≡ at + length (x ∷ es) = omega arith in z)

other : (k : ℕ) (es : List Event) (e : Event) → names_before k e ≡ false → last_after k 0 (es ++ e ∷ []) None ≡ last_after k 0 es None
other k es e h = last_more k 0 es e None ∙ ap (λ (b : Bool). if b then Some (0 + length es) else last_after k 0 es None) h

this : (k : ℕ) (es : List Event) (e : Event) → names_before k e ≡ true → last_after k 0 (es ++ e ∷ []) None ≡ Some (length es)
this k es e h = last_more k 0 es e None ∙ (ap (λ (b : Bool). if b then Some (0 + length es) else last_after k 0 es None) h
    ∙ ap Some (let z : 0 + length es ≡ length es = omega arith in z))

-- an event that names none of these changes none
unnamed : (before : List Event) (e : Event) (k : ℕ) (es : List Event) → ((n : ℕ) → k ≤ n → names_before n e ≡ false)
    → link_from (before ++ e ∷ []) k es ≡ link_from before k es
unnamed before e k [] h = refl
unnamed before e k (x ∷ es) h =
    ap (λ (m : Option ℕ). with_next_if m x ∷ link_from (before ++ e ∷ []) (k + 1) es) (other k before e (h k (omega arith)))
    ∙ ap (λ (z : List Event). with_next_if (last_after k 0 before None) x ∷ z) (unnamed before e (k + 1) es (λ n low. h n (omega arith)))

named_at : (e : Event) (p n : ℕ) → previous_of (link_of e) ≡ Some p → (n == p) ≡ names_before n e
named_at e p n h = ap (is_that n) (sym h)

-- the chunk that it names gets it as the next
named : (before : List Event) (e : Event) (k n : ℕ) (es : List Event) → previous_of (link_of e) ≡ Some (k + n)
    → update_at (with_next (length before)) n (link_from before k es) ≡ link_from (before ++ e ∷ []) k es
named before e k n [] h = past n
  where
    past : (n : ℕ) → update_at (with_next (length before)) n [] ≡ []
    past n = refl
named before e k zero (x ∷ es) h =
    let here : names_before k e ≡ true = sym (named_at e (k + 0) k h) ∙ (let z : k + 0 ≡ k = omega arith in ap (λ (m : ℕ). k == m) z ∙ eq-eqb k k refl) in
    let first = next_over (length before) (last_after k 0 before None) x ∙ ap (λ (m : Option ℕ). with_next_if m x) (sym (this k before e here)) in
    let rest = unnamed before e (k + 1) es (λ m low. sym (named_at e (k + 0) m h) ∙ ne_eqb m (k + 0) (λ q. omega arith)) in
    ap (λ (y : Event). y ∷ link_from before (k + 1) es) first ∙ ap (λ (z : List Event). with_next_if (last_after k 0 (before ++ e ∷ []) None) x ∷ z)
    (sym rest)
named before e k (suc n) (x ∷ es) h =
    let away : names_before k e ≡ false = sym (named_at e (k + suc n) k h) ∙ ne_eqb k (k + suc n) (λ q. omega arith) in
    let later : previous_of (link_of e) ≡ Some ((k + 1) + n) = h ∙ ap Some (let z : k + suc n ≡ (k + 1) + n = omega arith in z) in
    ap (λ (z : List Event). with_next_if (last_after k 0 before None) x ∷ z) (named before e (k + 1) n es later)
    ∙ ap (λ (m : Option ℕ). with_next_if m x ∷ link_from (before ++ e ∷ []) (k + 1) es) (sym (other k before e away))

past_all : (f : Event → Event) (n : ℕ) (es : List Event) → length es ≤ n → update_at f n es ≡ es
past_all f n [] h = refl
past_all f zero (e ∷ es) h = absurd (omega arith)
past_all f (suc n) (e ∷ es) h = ap (λ (z : List Event). e ∷ z) (past_all f n es (omega arith))

joined_at : (before : List Event) (k n : ℕ) (es : List Event) (d c : Event) → n < length es
    → get_or (link_from before k es) n d ≡ with_next_if (last_after (k + n) 0 before None) (get_or es n c)
joined_at before k n [] d c h = absurd (omega arith)
joined_at before k zero (e ∷ es) d c h = ap (λ (m : ℕ). with_next_if (last_after m 0 before None) e) (let z : k ≡ k + 0 = omega arith in z)
joined_at before k (suc n) (e ∷ es) d c h =
    joined_at before (k + 1) n es d c (omega arith) ∙ ap (λ (m : ℕ). with_next_if (last_after m 0 before None) (get_or es n c))
    (let z : (k + 1) + n ≡ k + suc n = omega arith in z)

take_size : (i : ℕ) (es : List Event) → i ≤ length es → length (take i es) ≡ i
take_size zero es h = refl
take_size (suc i) [] h = absurd (omega arith)
take_size (suc i) (e ∷ es) h = ap suc (take_size i es (omega arith))

-- Before the first event

pub none_joined : (k : ℕ) (es : List Event) → link_from [] k es ≡ es
none_joined k [] = refl
none_joined k (e ∷ es) = ap (λ (z : List Event). e ∷ z) (none_joined (k + 1) es)

take_one : (old : List Event) (i : ℕ) (d : Event) → i < length old → take (i + 1) old ≡ take i old ++ get_or old i d ∷ []
take_one old i d low = ap (λ (n : ℕ). take n old) (let z : i + 1 ≡ suc i = omega arith in z) ∙ take-suc old i d low

-- The event at an index, in the list so far

-- what the list is after the events before an index
abbrev pub IsJoined : List Event → ℕ → List Event → Type 0
IsJoined old i now = now ≡ link_from (take i old) 0 old

previous_there : (old now : List Event) (i : ℕ) (d c : Event) → i < length old → IsJoined old i now
    → previous_of (link_of (get_or now i d)) ≡ previous_of (link_of (get_or old i c))
previous_there old now i d c low h =
    ap (λ (z : List Event). previous_of (link_of (get_or z i d))) h
    ∙ (ap (λ (z : Event). previous_of (link_of z)) (joined_at (take i old) 0 i old d c low) ∙ kept (last_after (0 + i) 0 (take i old) None) (get_or old i c))

-- it names none
pub stays_joined : (old now : List Event) (i : ℕ) (d : Event) → i < length old → IsJoined old i now → previous_of (link_of (get_or now i d)) ≡ None
    → IsJoined old (i + 1) now
stays_joined old now i d low h p =
    let e = get_or old i d in
    let none : previous_of (link_of e) ≡ None = sym (previous_there old now i d d low h) ∙ p in
    let one = take_one old i d low in
    h ∙ (sym (unnamed (take i old) e 0 old (λ n zero_low. ap (is_that n) none)) ∙ ap (λ (z : List Event). link_from z 0 old) (sym one))

-- it names one
pub joins_on : (old now later : List Event) (i p : ℕ) (d : Event) → i < length old → IsJoined old i now → previous_of (link_of (get_or now i d)) ≡ Some p
    → later ≡ update_at (with_next i) p now → IsJoined old (i + 1) later
joins_on old now later i p d low h q e =
    let x = get_or old i d in
    let name : previous_of (link_of x) ≡ Some (0 + p) = (sym (previous_there old now i d d low h) ∙ q) ∙ ap Some (let z : p ≡ 0 + p = omega arith in z) in
    let one = take_one old i d low in
    let size : i ≡ length (take i old) = sym (take_size i old (omega arith)) in
    e ∙ (ap (update_at (with_next i) p) h
    ∙ (ap (λ (n : ℕ). update_at (with_next n) p (link_from (take i old) 0 old)) size
    ∙ (named (take i old) x 0 p old name ∙ ap (λ (z : List Event). link_from z 0 old) (sym one))))

-- it names none of the list
pub past_joined : (old now : List Event) (i p : ℕ) (d : Event) → i < length old → IsJoined old i now → previous_of (link_of (get_or now i d)) ≡ Some p
    → length now ≤ p → IsJoined old (i + 1) now
past_joined old now i p d low h q past = joins_on old now now i p d low h q (sym (past_all (with_next i) p now past))

pub joined_all : (old now : List Event) (n : ℕ) → length old ≤ n → IsJoined old n now → now ≡ link_all old
joined_all old now n low h = h ∙ ap (λ (z : List Event). link_from z 0 old) (take_all n old low)
