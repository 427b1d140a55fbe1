-- Closing what is open, seen from the innermost container.
use Rattle.std.proofs.Common.{◌≡◌, ℕ, zero, suc, ◌+◌, ◌<◌, get_or, List, [], ◌∷◌, ◌++◌, refl, sym, ap, ◌∙◌, subst, length, arith}
use Rattle.block_parser.proofs.Prelude.{after, At, Blocks, close, close_leaf, CodeContainer, Constructs, container_view, container_views, containers_of}
use Rattle.block_parser.proofs.Prelude.{get_or-map, Inside, join, length-append, length-map, level, Level, map-append, Opening, OpenLeaf, spine, Spine}
use Rattle.block_parser.proofs.Prelude.{spine_after, spine_at, Text, Tree, without_innermost_at}
use Rattle.block_state.specs.Spine.{without_innermost}
use Rattle.block_state.proofs.Trees.{join-assoc}

-- ---- how many containers are open

abbrev pub opening_depth : Opening → ℕ
opening_depth (At leaf) = 0
opening_depth (Inside c kids inner) = suc (opening_depth inner)

pub length-around : (around : List Level) (kids : Blocks) (away : Opening) → length (spine_at around kids away).around ≡ opening_depth away + length around
length-around around kids (At leaf) = omega arith
length-around around kids (Inside c inner_kids inner) =
    let k = length-around (level c kids ∷ around) inner_kids inner in omega (arith, k)

pub length-containers : (around : List Level) → length (containers_of around) ≡ length around
length-containers [] = refl
length-containers (l ∷ ls) = omega (arith, length-append (containers_of ls) (l.container ∷ []), length-containers ls)

-- ---- so many containers are closed

abbrev pub exits : ℕ → Spine → Spine
exits zero s = s
exits (suc n) s = without_innermost (exits n s)

abbrev pub leaf_closed : Constructs → Spine → Spine
leaf_closed on s = spine s.around (join s.kids (close_leaf on s.leaf)) (Text [])

exited-leaf : (around : List Level) (kids : Blocks) (leaf : OpenLeaf) → (without_innermost_at around kids leaf).leaf ≡ leaf
exited-leaf [] kids leaf = refl
exited-leaf (l ∷ ls) kids leaf = refl

pub exits-leaf : (n : ℕ) (s : Spine) → (exits n s).leaf ≡ s.leaf
exits-leaf zero s = refl
exits-leaf (suc n) s = let x = exits n s in exited-leaf x.around x.kids x.leaf ∙ exits-leaf n s

pub closed-spine : (on : Constructs) (around : List Level) (kids : Blocks) (away : Opening)
    → exits (opening_depth away) (leaf_closed on (spine_at around kids away)) ≡ spine around (join kids (close on away)) (Text [])
closed-spine on around kids (At leaf) = refl
closed-spine on around kids (Inside c inner_kids inner) = ap without_innermost (closed-spine on (level c kids ∷ around) inner_kids inner)

-- ---- what is added after that

pub after_added : (on : Constructs) (P : Spine → Type 0) (around : List Level) (kids : Blocks) (away : Opening) (t : Tree)
    → P (spine_after around (join kids (close on away)) t) → P (spine_after around kids (after on away t))
after_added on P around kids away t h = subst (λ (x : Blocks). P (spine_at around x t.now)) (join-assoc kids (close on away) t.done) h

-- ---- the last of the containers

snoc-parts : {X : Type 0} (xs ys : List X) (x y : X) → xs ++ x ∷ [] ≡ ys ++ y ∷ [] → (xs ≡ ys) × (x ≡ y)
snoc-parts [] [] x y h = (refl, cc)
snoc-parts [] (b ∷ bs) x y h = absurd (omega (arith, ap length h, length-append bs (y ∷ [])))
snoc-parts (a ∷ more) [] x y h = absurd (omega (arith, ap length h, length-append more (x ∷ [])))
snoc-parts (a ∷ more) (b ∷ bs) x y h =
    let tails : more ++ x ∷ [] ≡ bs ++ y ∷ [] = cc in
    let heads : a ≡ b = cc in
    let k = snoc-parts more bs x y tails in
    (ap (λ z. z ∷ more) heads ∙ ap (λ zs. b ∷ zs) k.0, k.1)

pub popped : (l : Level) (ls : List Level) (old new : List CodeContainer) (c : CodeContainer) → container_views old ≡ containers_of (l ∷ ls)
    → old ≡ new ++ c ∷ []
    → (container_views new ≡ containers_of ls) × (container_view c ≡ l.container)
popped l ls old new c is pop =
    snoc-parts (container_views new) (containers_of ls) (container_view c) l.container
    (sym (ap container_views pop ∙ map-append container_view new (c ∷ [])) ∙ is)

-- ---- those that the parser keeps

pub view_at : (cs : List CodeContainer) (i : ℕ) (d : CodeContainer) → i < length cs → d ≡ get_or cs i d
    → container_view d ≡ get_or (container_views cs) i (container_view d)
view_at cs i d lt is = ap container_view is ∙ sym (get_or-map container_view cs i d (container_view d) lt)

pub views_length : (cs : List CodeContainer) → length (container_views cs) ≡ length cs
views_length cs = length-map cs container_view
