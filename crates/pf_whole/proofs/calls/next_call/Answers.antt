use Rattle.pf_whole.proofs.calls.next_call.Goals as goal

pub next_stretch-requires : goal.next_stretch-requires
next_stretch-requires c = c.requires.within

pub call_after-requires-clause-head : goal.call_after-requires-clause-head
call_after-requires-clause-head c = let r = c.requires.reads in (r.0, c.in-Some.ensures.head r.0 r.1)
