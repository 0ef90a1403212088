use mathlib.Core.Path.{sym, ◌∙◌}
use borrow.Author.Rules.{rules}
use Rattle.collector_marking.proofs.Doing.{grows}
use Rattle.collector_marking.proofs.Scanning.{listing_step, phase-is}
use Rattle.collector_marking.proofs.mark_from.Goals as goal

pub trace-requires-clause-visited_le_marked : goal.trace-requires-clause-visited_le_marked
trace-requires-clause-visited_le_marked c = grows c.requires.marks_fit.count c.mark_words.ensures.marked

pub trace-requires-clause-sound : goal.trace-requires-clause-sound
trace-requires-clause-sound c = rw (c.mark_words.ensures.same.slots, c.mark_words.ensures.same.fresh) c.requires.sound

pub trace-requires-clause-listing : goal.trace-requires-clause-listing
trace-requires-clause-listing c = rw (c.mark_words.ensures.same.slots, c.mark_words.ensures.same.fresh) (listing_step c.requires.marks_fit.len c.requires.listing c.mark_words.ensures.marked)

pub returns : goal.returns
returns c =
    let e = c.mark_words.ensures.same in
    let m = rw (e.slots, e.fresh) at c.trace.ensures.marks_after in
    let s = rw (e.slots, e.fresh) at c.trace.ensures.scanned in
    search (rules, phase-is c.requires.marks_fit c.mark_words.ensures.marked m s, sym (c.trace.ensures.same.marks ∙ e.marks), sym (c.trace.ensures.same.order ∙ e.order))
