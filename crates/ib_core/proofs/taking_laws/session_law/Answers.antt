-- The law of sessions, clause by clause.
use Rattle.ib_core.proofs.After.{after_first, after_again, after_upgrade, after_further_x, after_further_sx, after_s_back, after_last_sx_back, after_last_x_back, after_last_x_beside_sx, after_sx_back, after_x_back}
use Rattle.ib_core.proofs.taking_laws.session_law.Goals as goal

pub returns-clause-first : goal.returns-clause-first
returns-clause-first c w m latch mode level a can given = after_first w m latch a mode level can given

pub returns-clause-again : goal.returns-clause-again
returns-clause-again c w m latch g mode level a is given = after_again w m latch a mode level g is given

pub returns-clause-upgrade : goal.returns-clause-upgrade
returns-clause-upgrade c w m latch level a proper free has no_x up = after_upgrade w m latch a proper free level has no_x up

pub returns-clause-further_x : goal.returns-clause-further_x
returns-clause-further_x c w m latch level a proper free has = after_further_x w m latch a proper free level has

pub returns-clause-further_sx : goal.returns-clause-further_sx
returns-clause-further_sx c w m latch level a proper free has = after_further_sx w m latch a proper free level has

pub returns-clause-s_back : goal.returns-clause-s_back
returns-clause-s_back c w m latch a free has = after_s_back w m latch a free has

pub returns-clause-last_sx_back : goal.returns-clause-last_sx_back
returns-clause-last_sx_back c w m latch a proper free sx x = after_last_sx_back w m latch a proper free sx x

pub returns-clause-last_x_back : goal.returns-clause-last_x_back
returns-clause-last_x_back c w m latch a proper free x sx = after_last_x_back w m latch a proper free x sx

pub returns-clause-last_x_beside_sx : goal.returns-clause-last_x_beside_sx
returns-clause-last_x_beside_sx c w m latch a proper free x sx = after_last_x_beside_sx w m latch a proper free x sx

pub returns-clause-sx_back : goal.returns-clause-sx_back
returns-clause-sx_back c w m latch a proper free sx more = after_sx_back w m latch a proper free sx more

pub returns-clause-x_back : goal.returns-clause-x_back
returns-clause-x_back c w m latch a proper free more = after_x_back w m latch a proper free more
