-- What the C face is worth.
pub mod BoxAdvance
pub mod BoxFresh
pub mod BoxStands
pub mod BoxUntil
pub mod Calls
pub mod HeadAdvance
pub mod HeadCalls
pub mod HeadFresh
pub mod HeadStands
pub mod HeadTrip
pub mod HeadUntil
pub mod RoundTrip
pub mod Write
