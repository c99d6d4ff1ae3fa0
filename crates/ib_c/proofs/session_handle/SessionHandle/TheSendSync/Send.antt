use denote.Struct.Struct.{exits_of}
use denote.Struct.Owning.{shape, fields, to}
use denote.Param.Send.{IsSend, AllSend, owning_send, struct_send, sendable}
use Rattle.std_alloc.proofs.SendSync.{quiet}
use Rattle.std_heap.proofs.Global.TheSendSync as handle
use Rattle.ib_c.specs.contracts.session.Session as Held
use Rattle.ib_c.proofs.session.Session.TheSendSync.{the_send as held}
use Rattle.ib_c.specs.contracts.session_handle.SessionHandle.{the_row, the_type}
use Rattle.ib_c.proofs.Sent.{kept}

pub send : IsSend the_row
send =
    let all : AllSend (fields the_type) = (search sendable, (handle.the_field_send, tt)) in
    owning_send the_type all (λ d. kept Held.the_row held d.alloc d.at d.held)
    (λ k. quiet (to the_type) (exits_of k (fields the_type)) ((struct_send (shape the_type) all).leaving k))
