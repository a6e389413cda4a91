mod Decoded
mod Letters
mod Texts
mod Spelling
