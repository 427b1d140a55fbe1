-- What several proofs of this crate import of other crates and of its own specs.
pub use Rattle.std.proofs.lemmas.Bool.{cases_Bool, cases_lt, cond-false, cond-true, eq-eqb, eqb-true, ne_eqb}
pub use Rattle.std.proofs.lemmas.Grind.{common_steps}
pub use Rattle.std.proofs.lemmas.List.{append-nil, get_or-map, get_or-take, get_or_append_left, get_or_default, get_or_push, length-append, length-map}
pub use Rattle.std.proofs.lemmas.List.{reverse-append, take_rest}
pub use Rattle.std.proofs.lemmas.List.Elements.{All-push, All-weaker}
pub use Rattle.std.proofs.lemmas.List.Sums.{suffix_len-le-length, sum_by-cons}
pub use Rattle.std.specs.List.{All, filter, fold}
pub use Rattle.std.specs.Prelude.{slice_index, slice_range, ◌==◌}
pub use Rattle.definition_inline.proofs.PairBytes.{takes_left, takes_some}
pub use Rattle.definition_inline.specs.Attention.{Run as RunOf}
pub use Rattle.definition_inline.specs.Pairing.{is_eligible, OpenRun, OpenRun as PlacedOf, Pair as PairOf, pairs, placed_from, taken_by, without}
pub use Rattle.inline_runs.specs.Floors.{AreOpenersAt, fits, FitsAt, IsFloorOf, opener_view, openers_view, placed_view}
pub use Rattle.inline_runs.specs.FoundPairs.{close, nearest, next_run, pairing, Pairing, Pairing as PairingOf, up_to_nearest, with_pair}
pub use Rattle.inline_runs.specs.Laid.{AreLaid, AreTexts, bytes, IsLaid, pair_bytes, text_at}
pub use Rattle.inline_runs.specs.Paired.{IsSound, run_sizes, state}
pub use Rattle.inline_runs.specs.Threads.{AreLinked, AreThreaded, closed_by, IsEnds, IsLast, opened_by}
pub use Rattle.inline_runs.specs.View.{pairs_view, run_view, runs_view}
pub use Rattle.inline_runs.specs.declared.openers.Opener.{Opener}
pub use Rattle.inline_runs.specs.declared.openers.Want.{Want}
pub use Rattle.inline_runs.specs.declared.pair.Pair.{Pair}
pub use Rattle.inline_runs.specs.declared.pairs.Ends.{Ends}
pub use Rattle.inline_runs.specs.declared.run.Run.{Run}
pub use Rattle.inline_runs.specs.declared.spans.RunLayout.{RunLayout}
