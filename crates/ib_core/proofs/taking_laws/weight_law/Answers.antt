-- The law of weights, clause by clause.
use Rattle.ib_core.proofs.Weighed.{wish_weighs, again_weighs, refused_weighs, ready_weighs, upgrade_weighs, further_x_weighs, sx_beside_x_weighs, further_sx_weighs, s_back_weighs, last_sx_back_weighs, sx_back_weighs, x_back_weighs}
use Rattle.ib_levels.specs.declared.level.Mode.TheVariants.{S, Sx, X}
use Rattle.ib_core.proofs.taking_laws.weight_law.Goals as goal

pub returns-clause-first : goal.returns-clause-first
returns-clause-first c w m latch S level a can given = wish_weighs w m latch a S level can given
returns-clause-first c w m latch Sx level a can given = wish_weighs w m latch a Sx level can given
returns-clause-first c w m latch X level a can given = wish_weighs w m latch a X level can given

pub returns-clause-again : goal.returns-clause-again
returns-clause-again c w m latch g mode level a is given = again_weighs w m latch a mode level g is given

pub returns-clause-refused : goal.returns-clause-refused
returns-clause-refused c w m latch g mode level a is refuses = refused_weighs w m latch a mode level g is refuses

pub returns-clause-ready : goal.returns-clause-ready
returns-clause-ready c w m latch a = ready_weighs w m latch a

pub returns-clause-upgrade : goal.returns-clause-upgrade
returns-clause-upgrade c w m latch level a proper free has no_x up = upgrade_weighs w m latch a proper free level has no_x up

pub returns-clause-further_x : goal.returns-clause-further_x
returns-clause-further_x c w m latch weight level a proper free has is = further_x_weighs w m latch a proper free level weight has is

pub returns-clause-sx_beside_x : goal.returns-clause-sx_beside_x
returns-clause-sx_beside_x c w m latch level a proper free has no_sx = sx_beside_x_weighs w m latch a proper free level has no_sx

pub returns-clause-further_sx : goal.returns-clause-further_sx
returns-clause-further_sx c w m latch level a proper free has = further_sx_weighs w m latch a proper free level has

pub returns-clause-s_back : goal.returns-clause-s_back
returns-clause-s_back c w m latch a proper free has = s_back_weighs w m latch a proper free has

pub returns-clause-last_sx_back : goal.returns-clause-last_sx_back
returns-clause-last_sx_back c w m latch a proper free last = last_sx_back_weighs w m latch a proper free last

pub returns-clause-sx_back : goal.returns-clause-sx_back
returns-clause-sx_back c w m latch a proper free more = sx_back_weighs w m latch a proper free more

pub returns-clause-x_back : goal.returns-clause-x_back
returns-clause-x_back c w m latch weight a proper free has is = x_back_weighs w m latch a proper free weight has is
