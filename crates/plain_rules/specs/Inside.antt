-- What only the bodies of the plain programs need.
pub mod ReceiverKept
pub mod ReceiverRun
pub mod RequestsAsking
