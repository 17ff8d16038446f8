pub mod Numbers
pub mod Answer
pub mod Component
pub mod Seams
pub mod Position
pub mod Pieces
