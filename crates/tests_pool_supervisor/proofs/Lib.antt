mod NoServer
