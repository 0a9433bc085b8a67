pub mod Iso6937Reads
pub mod SingleByteReads
pub mod Utf8Reads
pub mod TableOrder
pub mod SingleByteTables
pub mod Searches
