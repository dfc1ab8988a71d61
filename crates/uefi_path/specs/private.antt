-- Words of private contracts and ghost fields, and the lemmas that ghost fields cite.
pub mod Encoding
pub mod Stop
pub mod OneNode
pub mod OnePath
pub mod OneLoadOption
pub mod Description
pub mod NodeFault
