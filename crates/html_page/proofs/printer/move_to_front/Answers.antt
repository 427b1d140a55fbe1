use Rattle.std.proofs.Common.{◌≡◌, ℕ, ◌+◌, ◌-◌, List, [], ◌++◌, length, drop, take, refl, sym, ap, ◌∙◌, arith, append_assoc, append-nil, length-drop, take_all}
use Rattle.std.proofs.Math.Seq.{take-add}
use Rattle.html_page.proofs.Prelude.{nil_from_length, take_at, take_rest}
use Rattle.std.proofs.lemmas.List.{drop-drop, drop_at, length-take-le}
use Rattle.std.proofs.lemmas.Slice.{put_mid-paste}
use borrow.Rule.Slice.PartMut.{put_mid}
use Rattle.html_page.proofs.printer.move_to_front.Goals as goal

-- a part that ends where the whole does
put_rest : {X : Type 0} (at : ℕ) (xs ys : List X) → at + length ys ≡ length xs → put_mid at (length xs - at) xs ys ≡ take at xs ++ ys
put_rest at xs ys long =
    let k = length xs - at in
    let none : drop (at + k) xs ≡ [] = nil_from_length (drop (at + k) xs) (omega (arith, length-drop (at + k) xs, long)) in
    put_mid-paste at k xs ys ys k refl refl (omega (arith, long))
    ∙ ap (λ r. (take at xs ++ r) ++ drop (at + k) xs) (take_all k ys (omega (arith, long)))
    ∙ ap (λ r. (take at xs ++ ys) ++ r) none
    ∙ append-nil (take at xs ++ ys)

-- the next n are moved
moved_more : {X : Type 0} (xs : List X) (at n from : ℕ)
    → take at (drop from xs) ++ (take n (drop from (drop at xs)) ++ drop n (drop at xs)) ≡ take (at + n) (drop from xs) ++ drop (at + n) xs
moved_more xs at n from =
    let front = take at (drop from xs) in
    let turned : at + from ≡ from + at = omega arith in
    let other : drop from (drop at xs) ≡ drop at (drop from xs) = drop-drop from at xs ∙ ap (λ k. drop k xs) turned ∙ sym (drop-drop at from xs) in
    ap (λ r. front ++ (take n r ++ drop n (drop at xs))) other
    ∙ ap (λ r. front ++ (take n (drop at (drop from xs)) ++ r)) (drop-drop n at xs)
    ∙ sym (append_assoc front (take n (drop at (drop from xs))) (drop (at + n) xs))
    ∙ ap (λ r. r ++ drop (at + n) xs) (sym (take-add at n (drop from xs)))

pub by_part-preserved : goal.by_part-preserved
by_part-preserved g c =
    let xs = c.args.items.now in
    let items = c.by_part.items in
    let at = c.by_part.at in
    let from = c.args.from in
    let n = c.copy_to_front-at.result in
    let new = c.copy_to_front-at.new.items in
    let done = c.copy_to_front-at.ensures in
    let k = c.by_part.invariant in
    let front = take at (drop from xs) in
    let front_long : length front ≡ at = length-take-le at (drop from xs) (omega (arith, length-drop from xs, k.within)) in
    let lent = take_rest items at in
    let rest : drop at items ≡ drop at xs = ap (drop at) k.moved ∙ drop_at front (drop at xs) at front_long in
    let copied : new ≡ take n (drop from (drop at xs)) ++ drop n (drop at xs) =
    done.copied ∙ ap (λ r. take n (drop from r) ++ drop n r) (lent ∙ rest) in
    let part_long : length (take (length items - at) (drop at items)) + at ≡ length items =
    omega (arith, ap length lent, length-drop at items, c.by_part.auto.items, k.within) in
    record {
      within = omega (arith, done.within, part_long, c.by_part.auto.items, k.within);
      moved =
          put_rest at items new (omega (arith, c.copy_to_front-at.auto.items, part_long))
          ∙ ap (λ r. r ++ new) (ap (take at) k.moved ∙ take_at front (drop at xs) at front_long)
          ∙ ap (λ r. front ++ r) copied
          ∙ moved_more xs at n from;
    }
