-- What is made and listed of application credentials and trusts, in the order of the code.
pub mod Creds
pub mod Listed
