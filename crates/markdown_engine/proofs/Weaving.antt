-- Parts of balanced lists in place of chunks.
use Rattle.std.proofs.Common.{◌≡◌, ◌∙◌, ◌≤◌, ◌+◌, ◌-◌, ◌++◌, ℕ, List, [], ◌∷◌, Option, drop, length, map, take, refl, sym, ap, subst, arith, append-nil}
use Rattle.std.proofs.Common.{append_assoc}
use Rattle.markdown_engine.proofs.Prelude.{AreApart, ArePlaces, Chain, chains, chunks, chunks_of, Config, Content, counts, Divides, drop_all, edit_at, EditAt}
use Rattle.markdown_engine.proofs.Prelude.{Event, first_state, found_both, FoundLabels, fresh_config, HoldsAt, LawfulAt, MayBegin, nothing_found, part_size}
use Rattle.markdown_engine.proofs.Prelude.{place_at, Places, places, places_of, RanksAt, ReadsChain, replacement, resolve_each, Resolver, Resolves, SettlesAt}
use Rattle.markdown_engine.proofs.Prelude.{Steps, Subtokenizes, with_division, with_new_links}
use Rattle.std.proofs.lemmas.List.{drop-drop, take-append-drop, take-map}
use Rattle.std.specs.List.{drop-map}
use Rattle.engine_events.specs.declared.event.Name.{Name}
use Rattle.engine_states.specs.declared.state.State.TheVariants as states
use Rattle.markdown_engine.specs.Order.{IsBalanced, IsNested, open_after}
use Rattle.markdown_engine.specs.OrderLaws.{nested_append, nested_front, nested_in, opened_append}
use Rattle.markdown_engine.specs.Resolving.{ResolvesAt}
use Rattle.markdown_engine.specs.ResolvingLaws.{still_nested, still_opened}
use Rattle.markdown_engine.specs.Together.{AreTogether, AreTogetherFrom, EachHasPlace, EachTogether, children_to}
use Rattle.markdown_engine.proofs.ChainLaws.{EditsSoFar, after_edits, chunk_edits, edits_made, none_made, part_of}
use Rattle.markdown_engine.proofs.ChainSteps.{after_front, apart_front, apart_rest}
use Rattle.markdown_engine.proofs.Computing.{chain_valid}

-- Balanced lists

nested_rest : (names : List Name) (a b : List Event) → IsNested names (a ++ b) → IsNested (open_after names a) b
nested_rest names [] b h = h
nested_rest names (e ∷ a) b h = nested_rest _ a b h.1

-- what is balanced changes nothing of what is open
neutral : (names : List Name) (es : List Event) → IsBalanced es → IsNested names es × (open_after names es ≡ names)
neutral names es h = let k = nested_in [] names es h.0 in (k.0, k.1 ∙ ap (λ (z : List Name). z ++ names) h.1)

-- what is open inside of a chain, and then outside of it; in a chain only what is balanced stands between chunks
abbrev MayStandBetween : List Name → List Event → Type 0
MayStandBetween [] gap = Unit {0}
MayStandBetween (n ∷ ns) gap = IsBalanced gap

over_gap : (inside names : List Name) (gap : List Event) → MayStandBetween inside gap → IsNested names gap → IsNested (inside ++ names) gap
    × (open_after (inside ++ names) gap ≡ inside ++ open_after names gap)
over_gap [] names gap h k = (k, refl)
over_gap (n ∷ ns) names gap h k =
    let there = neutral ((n ∷ ns) ++ names) gap h in
    let here = (neutral names gap h).1 in
    (there.0, there.1 ∙ sym (ap (λ (z : List Name). (n ∷ ns) ++ z) here))

-- edits that take a chunk away each, and add parts of balanced lists
abbrev Weaves : List Event → ℕ → List Name → List EditAt → Type 0
Weaves list from inside [] = inside ≡ []
Weaves list from inside (e ∷ es) =
    (from ≤ e.at) × (e.remove ≡ 2) × MayStandBetween inside (take (e.at - from) (drop from list)) × IsBalanced (take 2 (drop e.at list)) × IsNested inside e.add
    × Weaves list (e.at + 2) (open_after inside e.add) es

later : (n m : ℕ) (list : List Event) → n ≤ m → take (m - n) (drop n list) ++ drop m list ≡ drop n list
later n m list h = ap (λ (z : List Event). take (m - n) (drop n list) ++ z) (ap (λ (k : ℕ). drop k list) (let z : m ≡ n + (m - n) = omega arith in
    z) ∙ sym (drop-drop (m - n) n list)) ∙ take-append-drop (m - n) (drop n list)

Closes : List Name → List Event → Type 0
Closes names es = IsNested names es × (open_after names es ≡ [])

closes_rest : (names : List Name) (a b : List Event) → Closes names (a ++ b) → Closes (open_after names a) b
unfolding Closes
closes_rest names a b h = (nested_rest names a b h.0, sym (opened_append names a b) ∙ h.1)

closes_both : (names : List Name) (a b : List Event) → IsNested names a → Closes (open_after names a) b → Closes names (a ++ b)
unfolding Closes
closes_both names a b h k = (nested_append names a b h k.0, opened_append names a b ∙ k.1)

closes_at : (names more : List Name) (es : List Event) → names ≡ more → Closes names es → Closes more es
closes_at names more es e h = subst (λ (z : List Name). Closes z es) e h

closes_as : (names : List Name) (a b : List Event) → a ≡ b → Closes names a → Closes names b
closes_as names a b e h = subst (λ (z : List Event). Closes names z) e h

nested_of : (names : List Name) (es : List Event) → Closes names es → IsNested names es
unfolding Closes
nested_of names es h = h.0

opened_of : (names : List Name) (es : List Event) → Closes names es → open_after names es ≡ []
unfolding Closes
opened_of names es h = h.1

weave : (list : List Event) (from : ℕ) (inside names : List Name) (es : List EditAt) → Weaves list from inside es → Closes names (drop from list)
    → Closes (inside ++ names) (replacement from es list)
weave list from inside names [] w h = closes_at names (inside ++ names) (drop from list) (ap (λ (z : List Name). z ++ names) (sym w)) h
weave list from inside names (e ∷ es) w h =
    let gap = take (e.at - from) (drop from list) in
    let pair = take 2 (drop e.at list) in
    let rest = replacement (e.at + 2) es list in
    let whole : Closes names (gap ++ drop e.at list) = closes_as names (drop from list) (gap ++ drop e.at list) (sym (later from e.at list w.0)) h in
    let through = over_gap inside names gap w.2 (nested_front names gap (drop e.at list) (nested_of names (gap ++ drop e.at list) whole)) in
    let outside = open_after names gap in
    let at_chunk : Closes outside (drop e.at list) = closes_rest names gap (drop e.at list) whole in
    let two : pair ++ drop (e.at + 2) list ≡ drop e.at list =
    ap (λ (z : List Event). pair ++ z) (sym (drop-drop 2 e.at list)) ∙ take-append-drop 2 (drop e.at list) in
    let after : Closes outside (drop (e.at + 2) list) =
    closes_at (open_after outside pair) outside (drop (e.at + 2) list) (neutral outside pair w.3).1
    (closes_rest outside pair (drop (e.at + 2) list) (closes_as outside (drop e.at list) (pair ++ drop (e.at + 2) list) (sym two) at_chunk)) in
    let added = nested_in inside outside e.add w.4 in
    let on = weave list (e.at + 2) (open_after inside e.add) outside es w.5 after in
    let part : Closes (inside ++ outside) (e.add ++ rest) =
    closes_both (inside ++ outside) e.add rest added.0 (closes_at (open_after inside e.add ++ outside) (open_after (inside ++ outside) e.add) rest
    (sym added.1) on) in
    let all : Closes (inside ++ names) (gap ++ (e.add ++ rest)) =
    closes_both (inside ++ names) gap (e.add ++ rest) through.0 (closes_at (inside ++ outside) (open_after (inside ++ names) gap) (e.add ++ rest)
    (sym through.1) part) in
    closes_as (inside ++ names) (gap ++ (e.add ++ rest)) (replacement from (e ∷ es) list)
    (ap (λ (n : ℕ). gap ++ (e.add ++ replacement (e.at + n) es list)) (sym w.1)) all

-- Chunks of a chain

gap_may : (inside : List Name) (gap : List Event) → IsBalanced gap → MayStandBetween inside gap
gap_may [] gap h = tt
gap_may (n ∷ ns) gap h = h

module _ (old children : List Event) (ps : Places) (list : List Event) where
  chunk_weaves : (k from pos : ℕ) (inside : List Name) (rest : List EditAt) → pos ≤ k → MayStandBetween inside (take (k - pos) (drop pos list))
      → IsBalanced (take 2 (drop k list)) → Closes inside (drop from children)
      → ((names : List Name) → Closes names (drop (from + part_size old k (drop from children)) children) → Weaves list (k + 2) names rest)
      → Weaves list pos inside (edit_at k 2 (part_of old children ps k from) ∷ rest)
  chunk_weaves k from pos inside rest low gap pair h on =
      let left = drop from children in
      let size = part_size old k left in
      let part = take size left in
      let whole : Closes inside (part ++ drop size left) = closes_as inside left (part ++ drop size left) (sym (take-append-drop size left)) h in
      let after : Closes (open_after inside part) (drop (from + size) children) =
      closes_as (open_after inside part) (drop size left) (drop (from + size) children) (drop-drop size from children)
      (closes_rest inside part (drop size left) whole) in (
        low,
        refl,
        gap,
        pair,
        still_nested ps inside part (nested_front inside part (drop size left) (nested_of inside (part ++ drop size left) whole)),
        subst (λ (z : List Name). Weaves list (k + 2) z rest) (sym (still_opened ps inside part)) (on (open_after inside part) after),
      )

  chunks_weave : (ks : List ℕ) (from pos count : ℕ) (inside : List Name) (more : List EditAt) → AreApart pos ks count → AreTogetherFrom list pos ks
      → Closes inside (drop from children) → children_to old ks children from ≡ length children
      → Weaves list (after_front pos ks) [] more → Weaves list pos inside (chunk_edits old children ps ks from ++ more)
  chunks_weave [] from pos count inside more a t h p w =
      let none = drop_all from children (omega (arith, p)) in
      subst (λ (z : List Name). Weaves list pos z more) (sym (ap (open_after inside) (sym none) ∙ opened_of inside (drop from children) h)) w
  chunks_weave (k ∷ ks) from pos count inside more a t h p w =
      chunk_weaves k from pos inside (chunk_edits old children ps ks (from + part_size old k (drop from children)) ++ more) a.0
      (gap_may inside (take (k - pos) (drop pos list)) t.0) t.1 h
      (λ names c. chunks_weave ks (from + part_size old k (drop from children)) (k + 2) count names more a.1 t.2 c p w)

  -- the first may stand anywhere
  chain_weaves : (ks : List ℕ) (pos count : ℕ) (more : List EditAt) → AreApart pos ks count → AreTogether list ks → Closes [] children
      → children_to old ks children 0 ≡ length children → Weaves list (after_front pos ks) [] more
      → Weaves list pos [] (chunk_edits old children ps ks 0 ++ more)
  chain_weaves [] pos count more a t h p w = w
  chain_weaves (k ∷ ks) pos count more a t h p w =
      chunk_weaves k 0 pos [] (chunk_edits old children ps ks (0 + part_size old k (drop 0 children)) ++ more) a.0 tt t.0 h
      (λ names c. chunks_weave ks (0 + part_size old k (drop 0 children)) (k + 2) count names more a.1 t.1 c p w)

-- The list whose links are moved

moved_part : (ps : Places) (n m : ℕ) (es : List Event) → IsBalanced (take n (drop m es)) → IsBalanced (take n (drop m (map (with_new_links ps) es)))
moved_part ps n m es h =
    let part = take n (drop m es) in
    let same : map (with_new_links ps) part ≡ take n (drop m (map (with_new_links ps) es)) =
    sym (take-map (with_new_links ps) n (drop m es)) ∙ ap (take n) (sym (drop-map (with_new_links ps) m es)) in
    subst (λ (z : List Event). IsBalanced z) same (still_nested ps [] part h.0, still_opened ps [] part ∙ h.1)

moved_from : (ps : Places) (es : List Event) (from : ℕ) (ks : List ℕ) → AreTogetherFrom es from ks → AreTogetherFrom (map (with_new_links ps) es) from ks
moved_from ps es from [] h = tt
moved_from ps es from (k ∷ ks) h = (moved_part ps (k - from) from es h.0, moved_part ps 2 k es h.1, moved_from ps es (k + 2) ks h.2)

moved_together : (ps : Places) (es : List Event) (ks : List ℕ) → AreTogether es ks → AreTogether (map (with_new_links ps) es) ks
moved_together ps es [] h = tt
moved_together ps es (k ∷ ks) h = (moved_part ps 2 k es h.0, moved_from ps es (k + 2) ks h.1)

-- Chains

module _ {M : Type 0} (valid : HoldsAt M) (step : Steps M) (rank : RanksAt M) (resolve : Resolves M) (settled : SettlesAt M) (bytes : List ℕ) (machine : M)
    (old : List Event) (lawful : LawfulAt (length bytes) valid step rank) (resolves : ResolvesAt valid resolve settled) (laid : ArePlaces bytes old) where
  settled_all : (names : List Resolver) (c : Config M) (found : FoundLabels) → settled c names → settled (resolve_each resolve names c found).config []
  settled_all [] c found h = h
  settled_all (n ∷ ns) c found h = settled_all ns (resolve c n).config (found_both found (resolve c n).found) (resolves.keeps c n ns h)

  -- what is read of a chain is balanced
  children_close : (c : Chain) (children : List Event) (more : FoundLabels) (from : ℕ) → AreApart from (chunks old c.0) (length old)
      → valid (fresh_config (place_at old c.0) machine) [] (states.Next (first_state c.1)) → ReadsChain step resolve bytes machine old c children more
      → Closes [] children
  unfolding Closes
  children_close c children more from apart h r =
      let read = r.read in
      let holds = chain_valid valid step rank resolve bytes machine old lawful laid c children more from apart h r in
      let last = settled_all read.resolvers (record read { resolvers = [] }) nothing_found (resolves.begins read holds) in
      let whole = resolves.whole (resolve_each resolve read.resolvers (record read { resolvers = [] }) nothing_found).config last in
      subst (λ (z : List Event). IsBalanced z) (sym r.added) whole.0

  chains_weave : (list : List Event) (ps : Places) → list ≡ map (with_new_links ps) old
      → (cs : List Chain) (acc : ℕ × ℕ) (edits all : List EditAt) (found total : FoundLabels) (pos : ℕ)
      (d : Divides step resolve bytes machine old cs acc edits all found total)
      → EditsSoFar edits acc.0 acc.1 (chunks_of old cs) (length old) → AreApart pos (chunks_of old cs) (length old) → MayBegin valid machine old cs
      → EachTogether old cs → EachHasPlace step resolve bytes machine old cs acc edits all found total d
      → (new : List EditAt) × (all ≡ edits ++ new) × Weaves list pos [] new
  chains_weave list ps e [] acc edits all found total pos d m a b t p = ([], sym d.0 ∙ sym (append-nil edits), refl)
  chains_weave list ps e (c ∷ cs) acc edits all found total pos d m a b t p =
      let ks = chunks old c.0 in
      let children = d.0 in
      let more = chunks_of old cs in
      let moved = places_of old ks children 0 acc.0 acc.1 in
      let own = chunk_edits old children moved ks 0 in
      let made = edits_made old children moved ks more 0 acc.0 acc.1 (length old) edits m in
      let after = after_edits old children moved ks more 0 acc.0 acc.1 (length old) edits m in
      let apart = apart_front pos ks more (length old) a in
      let rest = chains_weave list ps e cs (counts old ks children 0 acc.0 acc.1) (with_division old c.0 children acc edits) all (found_both found d.1) total
      (after_front pos ks) d.3 after (apart_rest pos ks more (length old) a) b.1 t.1 p.1 in
      let close = children_close c children d.1 pos apart b.0 d.2 in
      let together : AreTogether list ks = subst (λ (z : List Event). AreTogether z ks) (sym e) (moved_together ps old ks t.0) in (
        own ++ rest.0,
        rest.1 ∙ (ap (λ (z : List EditAt). z ++ rest.0) made ∙ append_assoc edits own rest.0),
        chain_weaves old children moved list ks pos (length old) rest.0 apart together close p.0 rest.2,
      )

  pub stays_balanced : (filter : Option Content) (new : List Event) (found : FoundLabels) → AreApart 0 (chunks_of old (chains filter old)) (length old)
      → MayBegin valid machine old (chains filter old) → IsBalanced old → EachTogether old (chains filter old)
      → (read : Subtokenizes step resolve bytes machine filter old new found)
      → EachHasPlace step resolve bytes machine old (chains filter old) (0, 0) [] read.edits nothing_found found read.divides → IsBalanced new
  unfolding Closes
  stays_balanced filter new found a b h t read p =
      let ps = places read.edits (length old) in
      let list = map (with_new_links ps) old in
      let cs = chains filter old in
      let (edits, same, w) = chains_weave list ps refl cs (0, 0) [] read.edits nothing_found found 0 read.divides
      (none_made (length old) (chunks_of old cs) a) a b t p in
      let all = weave list 0 [] [] edits w (still_nested ps [] old h.0, still_opened ps [] old ∙ h.1) in
      subst (λ (z : List Event). IsBalanced z) (sym (read.edited ∙ ap (λ (z : List EditAt). replacement 0 z list) same)) all
