-- Lent: whether enough is lent. Bytes: columns that a scan may pass. Blocks: both ends of a block's ink. Stretches: the
-- law that pins a row's stretch. Scans: the numbers, row by row. Lines: the bytes of a row. Sending: bytes sent to paper.
-- Laws: specs/Laws.antt. Written: a mask whose cells were written. Growing: a row to which bytes were added. Kept: ink kept while they are, row by row.
pub mod Lent
pub mod Bytes
pub mod Blocks
pub mod Stretches
pub mod Scans
pub mod Lines
pub mod Sending
pub mod Laws
pub mod Written
pub mod Growing
pub mod Kept
