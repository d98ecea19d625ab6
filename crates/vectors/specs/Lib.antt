-- What the contracts of `vectors` cite: the digest FNV-1a.
pub mod Digest
