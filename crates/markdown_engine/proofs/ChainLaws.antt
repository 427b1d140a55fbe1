-- Links of child events lead to where those events stand.
use Rattle.std.proofs.Common.{◌≡◌, ◌∙◌, ℕ, ◌+◌, ◌-◌, ◌*◌, ◌<◌, ◌≤◌, zero, suc, Bool, true, false, ◌==◌, nat_lt, if◌then◌else◌, List, [], ◌∷◌, ◌++◌, map, take}
use Rattle.std.proofs.Common.{drop, length, slice_get, Option, Some, None, option_map, min, refl, sym, ap, subst, arith, append_assoc, append-nil}
use Rattle.std.proofs.Common.{length-append, length-take, length-drop, inl, inr}
use Rattle.markdown_engine.proofs.Prelude.{AreApart, cases_lt, Chain, chains, chunks, chunks_of, Content, counts, Divides, edit_at, EditAt, Event, found_both}
use Rattle.markdown_engine.proofs.Prelude.{FoundLabels, IsOrdered, nat_tests, nothing_found, part_size, Places, places, places_of, replacement, Resolves}
use Rattle.markdown_engine.proofs.Prelude.{Steps, with_division, with_new_links}
use Rattle.std.proofs.lemmas.List.{length-map}
use Rattle.std.proofs.lemmas.List.Sums.{prefix_len-le-length}
use Rattle.std.proofs.lemmas.Option.{slice_get-map}
use Rattle.engine_edits.specs.Edits.{with_edit, with_new, with_merge, has_place}
use Rattle.engine_edits.specs.Replacement.{arrivals, rising}
use Rattle.engine_chunks.specs.Chunks.{size_to}
use Rattle.engine_chunks.specs.Parts.{with_division_at}
use Rattle.markdown_engine.specs.Standing.{EachStands, LinksLead}

-- items of lists that are joined or cut
get_left : {X : Type 0} (xs ys : List X) (i : ℕ) → i < length xs → slice_get (xs ++ ys) i ≡ slice_get xs i
get_left [] ys i h = absurd (omega arith)
get_left (x ∷ xs) ys zero h = refl
get_left (x ∷ xs) ys (suc i) h = get_left xs ys i (omega arith)

get_after : {X : Type 0} (xs ys : List X) (i j : ℕ) → i ≡ length xs + j → slice_get (xs ++ ys) i ≡ slice_get ys j
get_after [] ys i j h = let e : i ≡ j = omega arith in ap (slice_get ys) e
get_after (x ∷ xs) ys zero j h = absurd (omega arith)
get_after (x ∷ xs) ys (suc i) j h = get_after xs ys i j (omega arith)

get_front : {X : Type 0} (n : ℕ) (xs : List X) (i : ℕ) → i < n → slice_get (take n xs) i ≡ slice_get xs i
get_front zero xs i h = absurd (omega arith)
get_front (suc n) [] i h = refl
get_front (suc n) (x ∷ xs) zero h = refl
get_front (suc n) (x ∷ xs) (suc i) h = get_front n xs i (omega arith)

get_later : {X : Type 0} (n : ℕ) (xs : List X) (i : ℕ) → slice_get (drop n xs) i ≡ slice_get xs (n + i)
get_later zero xs i = let e : i ≡ 0 + i = omega arith in ap (slice_get xs) e
get_later (suc n) [] i = refl
get_later (suc n) (x ∷ xs) i = let e : suc (n + i) ≡ suc n + i = omega arith in get_later n xs i ∙ ap (slice_get (x ∷ xs)) e

some_at : {X : Type 0} (xs : List X) (i : ℕ) → i < length xs → (x : X) × (slice_get xs i ≡ Some x)
some_at [] i h = absurd (omega arith)
some_at (x ∷ xs) zero h = (x, refl)
some_at (x ∷ xs) (suc i) h = some_at xs i (omega arith)

-- places that rise
length-rising : (first n : ℕ) → length (rising first n) ≡ n
length-rising first zero = refl
length-rising first (suc n) = let h = length-rising (first + 1) n in omega arith

rising_at : (first n j : ℕ) → j < n → slice_get (rising first n) j ≡ Some (Some (first + j))
rising_at first zero j h = absurd (omega arith)
rising_at first (suc n) zero h = let e : first ≡ first + zero = omega arith in ap (λ (z : ℕ). Some (Some z)) e
rising_at first (suc n) (suc j) h = let e : first + 1 + j ≡ first + suc j = omega arith in
    rising_at (first + 1) n j (omega arith) ∙ ap (λ (z : ℕ). Some (Some z)) e

-- a part is no longer than the events that it is taken of
size_fits : (exit : Option Event) (children : List Event) → size_to exit children ≤ length children
size_fits None children = omega arith
size_fits (Some e) children = prefix_len-le-length _ children

part_fits : (events : List Event) (k : ℕ) (children : List Event) → part_size events k children ≤ length children
part_fits events k children = pick (nat_lt k (length events))
  where
    pick : (b : Bool) → (if b then size_to (slice_get events (k + 1)) children else 0) ≤ length children
    pick true = size_fits (slice_get events (k + 1)) children
    pick false = omega arith

-- edits that each remove a chunk, one after another up to an end
abbrev pub AreChunks : ℕ → List EditAt → ℕ → Type 0
AreChunks from [] end = from ≤ end
AreChunks from (e ∷ es) end = (from ≤ e.at) × (e.remove ≡ 2) × AreChunks (e.at + 2) es end

chunks_room : (from : ℕ) (es : List EditAt) (end : ℕ) → AreChunks from es end → 2 * length es + from ≤ end
chunks_room from [] end h = omega (arith, h)
chunks_room from (e ∷ es) end h = let l = chunks_room (e.at + 2) es end h.2 in let m = h.0 in omega arith

chunks_up : (from : ℕ) (es : List EditAt) (end count : ℕ) → AreChunks from es end → end ≤ count → AreChunks from es count
chunks_up from [] end count h l = omega (arith, h)
chunks_up from (e ∷ es) end count h l = (h.0, h.1, chunks_up (e.at + 2) es end count h.2 l)

pub apart_room : (from : ℕ) (ks : List ℕ) (count : ℕ) → AreApart from ks count → from ≤ count
apart_room from [] count h = h
apart_room from (k ∷ ks) count h = let l = apart_room (k + 2) ks count h.1 in let m = h.0 in omega arith

later_place : (at place : ℕ) → place < at → at == place ≡ false
later_place at place h = grind (arith, nat_tests)

not_earlier : (at place : ℕ) → place ≤ at → nat_lt at place ≡ false
not_earlier at place h = grind (arith, nat_tests)

if_else : {X : Type 0} (b : Bool) (x y : X) → b ≡ false → if b then x else y ≡ y
if_else b x y h = rw h refl

none_there : (at from : ℕ) (edits : List EditAt) (end : ℕ) → AreChunks from edits end → end ≤ at → has_place at edits ≡ false
none_there at from [] end h l = refl
none_there at from (e ∷ es) end h l =
    let low = chunks_room (e.at + 2) es end h.2 in
    rw (later_place at e.at (omega arith)) (none_there at (e.at + 2) es end h.2 l)

new_last : (at from : ℕ) (part : List Event) (edits : List EditAt) (end : ℕ) → AreChunks from edits end → end ≤ at
    → with_new at 2 part edits ≡ edits ++ edit_at at 2 part ∷ []
new_last at from part [] end h l = refl
new_last at from part (e ∷ es) end h l =
    let low = chunks_room (e.at + 2) es end h.2 in
    if_else (nat_lt at e.at) (edit_at at 2 part ∷ e ∷ es) (e ∷ with_new at 2 part es) (not_earlier at e.at (omega arith))
    ∙ ap (λ (z : List EditAt). e ∷ z) (new_last at (e.at + 2) part es end h.2 l)

-- an edit of a later chunk is put last
edit_last : (at : ℕ) (part : List Event) (edits : List EditAt) (end : ℕ) → AreChunks 0 edits end → end ≤ at
    → with_edit false at 2 part edits ≡ edits ++ edit_at at 2 part ∷ []
edit_last at part edits end h l =
    if_else (has_place at edits) (with_merge false at 2 part edits) (with_new at 2 part edits) (none_there at 0 edits end h l)
    ∙ new_last at 0 part edits end h l

one_chunk_more : (at from : ℕ) (part : List Event) (edits : List EditAt) (end : ℕ) → AreChunks from edits end → end ≤ at
    → AreChunks from (edits ++ edit_at at 2 part ∷ []) (at + 2)
one_chunk_more at from part [] end h l = (omega (arith, h), refl, omega arith)
one_chunk_more at from part (e ∷ es) end h l = (h.0, h.1, one_chunk_more at (e.at + 2) part es end h.2 l)

added_last : (edits : List EditAt) (e : EditAt) → arrivals (edits ++ e ∷ []) ≡ arrivals edits + length e.add
added_last [] e = omega arith
added_last (x ∷ xs) e = let h = added_last xs e in omega arith

-- what an edit adds stands where it removes, less what goes before and with what comes before
stands_there : (from : ℕ) (xs ys : List EditAt) (e : EditAt) (events : List Event) (p j : ℕ) → AreChunks from xs e.at → e.at ≤ length events → j < length e.add
    → p + (2 * length xs + from) ≡ e.at + arrivals xs + j → slice_get (replacement from (xs ++ e ∷ ys) events) p ≡ slice_get e.add j
stands_there from [] ys e events p j h l i q =
    let kept = take (e.at - from) (drop from events) in
    let rest = replacement (e.at + e.remove) ys events in
    let size : length kept ≡ min (e.at - from) (length events - from) =
    length-take (e.at - from) (drop from events) ∙ ap (min (e.at - from)) (length-drop from events) in
    let low : from ≤ e.at = h in
    get_after kept (e.add ++ rest) p j (omega arith) ∙ get_left e.add rest j i
stands_there from (x ∷ xs) ys e events p j h l i q =
    let kept = take (x.at - from) (drop from events) in
    let rest = replacement (x.at + x.remove) (xs ++ e ∷ ys) events in
    let size : length kept ≡ min (x.at - from) (length events - from) =
    length-take (x.at - from) (drop from events) ∙ ap (min (x.at - from)) (length-drop from events) in
    let low : from ≤ x.at = h.0 in
    let room : 2 * length xs + (x.at + 2) ≤ e.at = chunks_room (x.at + 2) xs e.at h.2 in
    let n = p - ((x.at - from) + length x.add) in
    get_after kept (x.add ++ rest) p (length x.add + n) (omega arith)
    ∙ (get_after x.add rest (length x.add + n) n refl
    ∙ (ap (λ (z : ℕ). slice_get (replacement (x.at + z) (xs ++ e ∷ ys) events) n) h.1
    ∙ stands_there (x.at + 2) xs ys e events n j h.2 l i (omega arith)))

-- the edits made so far, of which so many events go and come, and the chunks that are left
pub record EditsSoFar (edits : List EditAt) (removed came : ℕ) (ks : List ℕ) (count : ℕ) : Type 0 where
  pub end : ℕ
  pub chunks : AreChunks 0 edits end
  pub goes : removed ≡ 2 * length edits
  pub comes : came ≡ arrivals edits
  pub apart : AreApart end ks count

module _ (events children : List Event) (ps : Places) where
  -- the part of the child events for a chunk
  abbrev pub part_of : ℕ → ℕ → List Event
  part_of k from = map (with_new_links ps) (take (part_size events k (drop from children)) (drop from children))

  part_length : (k from : ℕ) → length (part_of k from) ≡ part_size events k (drop from children)
  part_length k from =
      let size = part_size events k (drop from children) in
      let fits = part_fits events k (drop from children) in
      length-map (take size (drop from children)) (with_new_links ps) ∙ (length-take size (drop from children) ∙ omega arith)

  after_edit : (k : ℕ) (ks : List ℕ) (from removed came count : ℕ) (edits : List EditAt) → EditsSoFar edits removed came (k ∷ ks) count
      → EditsSoFar (with_edit false k 2 (part_of k from) edits) (removed + 2) (came + part_size events k (drop from children)) ks count
  after_edit k ks from removed came count edits h =
      let e = edit_at k 2 (part_of k from) in
      let size = part_size events k (drop from children) in
      let low = h.apart.0 in
      let made : EditsSoFar (edits ++ e ∷ []) (removed + 2) (came + size) ks count = record {
        end = k + 2;
        chunks = one_chunk_more k 0 (part_of k from) edits h.end h.chunks low;
        goes = let l = length-append edits (e ∷ []) in let r = h.goes in omega arith;
        comes = let l = added_last edits e in let r = h.comes in let n = part_length k from in omega arith;
        apart = h.apart.1;
      } in
      subst (λ (z : List EditAt). EditsSoFar z (removed + 2) (came + size) ks count) (sym (edit_last k (part_of k from) edits h.end h.chunks low)) made

  pub after_edits : (ks more : List ℕ) (from removed came count : ℕ) (edits : List EditAt) → EditsSoFar edits removed came (ks ++ more) count
      → let n = counts events ks children from removed came in EditsSoFar (with_division_at events ks children ps from edits) n.0 n.1 more count
  after_edits [] more from removed came count edits h = h
  after_edits (k ∷ ks) more from removed came count edits h =
      let size = part_size events k (drop from children) in
      after_edits ks more (from + size) (removed + 2) (came + size) count (with_edit false k 2 (part_of k from) edits)
      (after_edit k (ks ++ more) from removed came count edits h)

  -- the edits of the chunks of a chain
  abbrev pub chunk_edits : List ℕ → ℕ → List EditAt
  chunk_edits [] from = []
  chunk_edits (k ∷ ks) from = edit_at k 2 (part_of k from) ∷ chunk_edits ks (from + part_size events k (drop from children))

  -- they are put after those made before
  pub edits_made : (ks more : List ℕ) (from removed came count : ℕ) (edits : List EditAt) → EditsSoFar edits removed came (ks ++ more) count
      → with_division_at events ks children ps from edits ≡ edits ++ chunk_edits ks from
  edits_made [] more from removed came count edits h = sym (append-nil edits)
  edits_made (k ∷ ks) more from removed came count edits h =
      let size = part_size events k (drop from children) in
      let e = edit_at k 2 (part_of k from) in
      let next = with_edit false k 2 (part_of k from) edits in
      let g = edits_made ks more (from + size) (removed + 2) (came + size) count next (after_edit k (ks ++ more) from removed came count edits h) in
      let last : next ≡ edits ++ e ∷ [] = edit_last k (part_of k from) edits h.end h.chunks h.apart.0 in
      g ∙ (ap (λ (z : List EditAt). z ++ chunk_edits ks (from + size)) last ∙ append_assoc edits (e ∷ []) (chunk_edits ks (from + size)))

same_place : (a b : ℕ) → Some (Some a) ≡ Some (Some b) → a ≡ b
same_place a b h = cc

none_some : {X : Type 0} (x : X) → None ≡ Some x → ⊥
none_some x h = cc

module _ (events children : List Event) (ps : Places) (all : List EditAt) (list : List Event) where
  -- a child event is at a place of the list
  abbrev IsAt : ℕ → ℕ → Type 0
  IsAt j p = (e : Event) × (slice_get children j ≡ Some e) × (slice_get (replacement 0 all list) p ≡ Some (with_new_links ps e))

  child_stands : (k from end j p : ℕ) (edits rest : List EditAt) → AreChunks 0 edits end → end ≤ k → k ≤ length list
      → all ≡ edits ++ edit_at k 2 (part_of events children ps k from) ∷ rest
      → j < part_size events k (drop from children) → p + 2 * length edits ≡ k + arrivals edits + j → IsAt (from + j) p
  child_stands k from end j p edits rest h l f s i q =
      let size = part_size events k (drop from children) in
      let fits = part_fits events k (drop from children) in
      let left = length-drop from children in
      let long = part_length events children ps k from in
      let e = edit_at k 2 (part_of events children ps k from) in
      let child = some_at children (from + j) (omega arith) in
      let there : slice_get (replacement 0 (edits ++ e ∷ rest) list) p ≡ slice_get e.add j =
      stands_there 0 edits rest e list p j (chunks_up 0 edits end k h l) f (omega arith) (omega arith) in
      let part : slice_get e.add j ≡ Some (with_new_links ps child.0) =
      slice_get-map (with_new_links ps) (take size (drop from children)) j
      ∙ ap (option_map (with_new_links ps)) (get_front size (drop from children) j i ∙ (get_later from children j ∙ child.1)) in
      (child.0, child.1, ap (λ (z : List EditAt). slice_get (replacement 0 z list) p) s ∙ (there ∙ part))

  -- child events from one on stand where the places from there on say
  parts_stand : (ks more : List ℕ) (from removed came : ℕ) (edits rest : List EditAt) → EditsSoFar edits removed came (ks ++ more) (length list)
      → all ≡ with_division_at events ks children ps from edits ++ rest
      → (j p : ℕ) → slice_get (places_of events ks children from removed came) j ≡ Some (Some p) → IsAt (from + j) p
  parts_stand [] more from removed came edits rest h s j p q = absurd (none_some (Some p) q)
  parts_stand (k ∷ ks) more from removed came edits rest h s j p q =
      let size = part_size events k (drop from children) in
      let at = (k - removed) + came in
      let tail = places_of events ks children (from + size) (removed + 2) (came + size) in
      let part = part_of events children ps k from in
      let edit = edit_at k 2 part in
      let next = with_edit false k 2 part edits in
      let after = after_edit events children ps k (ks ++ more) from removed came (length list) edits h in
      let long = length-rising at size in
      elim (cases_lt j size) [
        | inl i ↦
            let first : slice_get (rising at size ++ tail) j ≡ Some (Some (at + j)) = get_left (rising at size) tail j (omega arith) ∙ rising_at at size j i in
            let place : p ≡ at + j = same_place p (at + j) (sym q ∙ first) in
            let new = chunk_edits events children ps ks (from + size) in
            let follow = edits_made events children ps ks more (from + size) (removed + 2) (came + size) (length list) next after in
            let last : next ≡ edits ++ edit ∷ [] = edit_last k part edits h.end h.chunks h.apart.0 in
            let joined : all ≡ (edits ++ edit ∷ []) ++ new ++ rest =
            s ∙ (ap (λ (z : List EditAt). z ++ rest) follow ∙ ap (λ (z : List EditAt). z ++ new ++ rest) last) in
            let whole : all ≡ edits ++ edit ∷ (new ++ rest) =
            joined ∙ (append_assoc (edits ++ edit ∷ []) new rest ∙ append_assoc edits (edit ∷ []) (new ++ rest)) in
            let room = chunks_room 0 edits h.end h.chunks in
            let goes = h.goes in
            let comes = h.comes in
            let low = h.apart.0 in
            let fits = apart_room (k + 2) (ks ++ more) (length list) h.apart.1 in
            child_stands k from h.end j p edits (new ++ rest) h.chunks low (omega arith) whole i (omega arith)
        | inr i ↦
            let n = j - size in
            let later : slice_get (rising at size ++ tail) j ≡ slice_get tail n = get_after (rising at size) tail j n (omega arith) in
            let same : from + size + n ≡ from + j = omega arith in
            subst (λ (z : ℕ). IsAt z p) same (parts_stand ks more (from + size) (removed + 2) (came + size) next rest after s n p (sym later ∙ q))
      ]

module _ {M : Type 0} (step : Steps M) (resolve : Resolves M) (bytes : List ℕ) (machine : M) (old : List Event) where
  -- all edits begin with those made before
  divides_follow : (cs : List Chain) (acc : ℕ × ℕ) (edits all : List EditAt) (found total : FoundLabels) (count : ℕ)
      → Divides step resolve bytes machine old cs acc edits all found total → EditsSoFar edits acc.0 acc.1 (chunks_of old cs) count
      → (new : List EditAt) × (all ≡ edits ++ new)
  divides_follow [] acc edits all found total count d h = ([], sym d.0 ∙ sym (append-nil edits))
  divides_follow (c ∷ cs) acc edits all found total count d h =
      let ks = chunks old c.0 in
      let children = d.0 in
      let more = chunks_of old cs in
      let ps = places_of old ks children 0 acc.0 acc.1 in
      let new = chunk_edits old children ps ks 0 in
      let here = edits_made old children ps ks more 0 acc.0 acc.1 count edits h in
      let after = after_edits old children ps ks more 0 acc.0 acc.1 count edits h in
      let rest = divides_follow cs (counts old ks children 0 acc.0 acc.1) (with_division old c.0 children acc edits) all
      (found_both found d.1) total count d.3 after in
      (new ++ rest.0, rest.1 ∙ (ap (λ (z : List EditAt). z ++ rest.0) here ∙ append_assoc edits new rest.0))

  chains_stand : (cs : List Chain) (acc : ℕ × ℕ) (edits all : List EditAt) (found total : FoundLabels) (list : List Event)
      (d : Divides step resolve bytes machine old cs acc edits all found total) → EditsSoFar edits acc.0 acc.1 (chunks_of old cs) (length list)
      → EachStands step resolve bytes machine old (replacement 0 all list) cs acc edits all found total d
  chains_stand [] acc edits all found total list d h = tt
  chains_stand (c ∷ cs) acc edits all found total list d h =
      let ks = chunks old c.0 in
      let children = d.0 in
      let more = chunks_of old cs in
      let ps = places_of old ks children 0 acc.0 acc.1 in
      let next = counts old ks children 0 acc.0 acc.1 in
      let made = with_division old c.0 children acc edits in
      let after = after_edits old children ps ks more 0 acc.0 acc.1 (length list) edits h in
      let rest = divides_follow cs next made all (found_both found d.1) total (length list) d.3 after in (
        λ j p q. let e : 0 + j ≡ j = omega arith in
            subst (λ (z : ℕ). IsAt old children ps all list z p) e (parts_stand old children ps all list ks more 0 acc.0 acc.1 edits rest.0 h rest.1 j p q),
        chains_stand cs next made all (found_both found d.1) total list d.3 after,
      )

-- no edit was made yet
pub none_made : (count : ℕ) (ks : List ℕ) → AreApart 0 ks count → EditsSoFar [] 0 0 ks count
none_made count ks a = record {
  end = 0;
  chunks = omega arith;
  goes = omega arith;
  comes = refl;
  apart = a;
}

chunks_ordered : (from : ℕ) (es : List EditAt) (end : ℕ) → AreChunks from es end → IsOrdered from es end
chunks_ordered from [] end h = h
chunks_ordered from (e ∷ es) end h = (h.0, subst (λ (z : ℕ). IsOrdered (e.at + z) es end) (sym h.1) (chunks_ordered (e.at + 2) es end h.2))

module _ {M : Type 0} (step : Steps M) (resolve : Resolves M) (bytes : List ℕ) (machine : M) (old : List Event) where
  ordered_from : (cs : List Chain) (acc : ℕ × ℕ) (edits all : List EditAt) (found total : FoundLabels) (count : ℕ)
      → Divides step resolve bytes machine old cs acc edits all found total → EditsSoFar edits acc.0 acc.1 (chunks_of old cs) count → IsOrdered 0 all count
  ordered_from [] acc edits all found total count d h =
      subst (λ (z : List EditAt). IsOrdered 0 z count) d.0 (chunks_ordered 0 edits count (chunks_up 0 edits h.end count h.chunks h.apart))
  ordered_from (c ∷ cs) acc edits all found total count d h =
      let ks = chunks old c.0 in
      let children = d.0 in
      let ps = places_of old ks children 0 acc.0 acc.1 in
      let after = after_edits old children ps ks (chunks_of old cs) 0 acc.0 acc.1 count edits h in
      ordered_from cs (counts old ks children 0 acc.0 acc.1) (with_division old c.0 children acc edits) all (found_both found d.1) total count d.3 after

  -- the edits of chains that stand apart are in order
  pub divides_ordered : (cs : List Chain) (all : List EditAt) (total : FoundLabels) (count : ℕ)
      → Divides step resolve bytes machine old cs (0, 0) [] all nothing_found total → AreApart 0 (chunks_of old cs) count → IsOrdered 0 all count
  divides_ordered cs all total count d a = ordered_from cs (0, 0) [] all nothing_found total count d (none_made count (chunks_of old cs) a)

-- where chunks stand apart, links of child events lead to where those events stand
pub links_lead : {M : Type 0} (step : Steps M) (resolve : Resolves M) (bytes : List ℕ) (machine : M) (filter : Option Content) (old new : List Event)
    (found : FoundLabels) → AreApart 0 (chunks_of old (chains filter old)) (length old) → LinksLead step resolve bytes machine filter old new found
links_lead {M} step resolve bytes machine filter old new found a read =
    let list = map (with_new_links (places read.edits (length old))) old in
    let cs = chains filter old in
    let none = none_made (length old) (chunks_of old cs) a in
    let size : length list ≡ length old = length-map old (with_new_links (places read.edits (length old))) in
    let stand = chains_stand step resolve bytes machine old cs (0, 0) [] read.edits nothing_found found list read.divides
    (subst (λ (z : ℕ). EditsSoFar [] 0 0 (chunks_of old cs) z) (sym size) none) in
    subst (λ (z : List Event). EachStands step resolve bytes machine old z cs (0, 0) [] read.edits nothing_found found read.divides) (sym read.edited) stand
