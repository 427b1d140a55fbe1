use Rattle.std.proofs.Common.{◌≡◌, ◌+◌, ◌∷◌, [], length, subst, sym, ap, ◌∙◌, set}
use Rattle.inline_runs.proofs.Prelude.{AreThreaded, Ends, get_or_default, length-append, Pair}
use Rattle.inline_runs.proofs.Threads.{threaded_close}
use Rattle.inline_runs.proofs.pairs.Pairs.add_pair.Goals as goal

pub returns-clause-threaded : goal.returns-clause-threaded
returns-clause-threaded g c =
    let s = c.args.self.now in
    let e = c.index_mut.result.now in
    let p : Pair = record { opener = c.args.opener; closer = c.len.result; double = c.args.double; earlier = c.index.result.now.last_opened } in
    let count : c.len-2.result ≡ length s.pairs.items + 1 =
    c.len-2.ensures ∙ c.push.new.self.ok.0 ∙ ap length c.in_ok-push.ensures.items ∙ length-append s.pairs.items (p ∷ []) in
    let earlier : p.earlier ≡ e.last_opened =
    ap (λ (x : Ends). x.last_opened) (c.index.ensures ∙ get_or_default s.ends.items c.args.opener c.index.result.now e c.requires.opener
    ∙ sym c.index_mut.ensures.value) in
    subst (λ ps. AreThreaded ps (set s.ends.items c.args.opener (record e { last_opened = c.len-2.result })) s.first) (sym c.in_ok-push.ensures.items)
    (threaded_close s.pairs.items s.ends.items s.first c.len-2.result p e (c.len.ensures
    ∙ s.ends.ok.0) c.requires.opener count c.index_mut.ensures.value earlier c.requires.threaded)
