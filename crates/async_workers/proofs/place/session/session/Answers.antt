use Rattle.async_workers.proofs.place.session.session.Goals as goal

pub fetch_list-requires : goal.fetch_list-requires
fetch_list-requires c = let h = c.requires.hand in (h.0, c.take_steps-ended.ensures.hand h.0 h.1)

pub returns-clause-hand : goal.returns-clause-hand
returns-clause-hand c = rw (c.fetch_list.ensures.desk, c.fetch_list.ensures.held) c.take_steps-ended.ensures.hand

pub returns-clause-desk : goal.returns-clause-desk
returns-clause-desk c = rw c.fetch_list.ensures.desk c.take_steps-ended.ensures.desk

pub returns-clause-ends : goal.returns-clause-ends
returns-clause-ends c = rw (c.fetch_list.ensures.desk, c.fetch_list.ensures.held) c.take_steps-ended.ensures.ends

pub returns-clause-asked : goal.returns-clause-asked
returns-clause-asked c = rw c.fetch_list.ensures.desk c.take_steps-ended.ensures.asked
